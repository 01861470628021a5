-- `console::judge_rows` meets its contract: the judge's answer decides. Assumes nothing.
use mathlib.Core.Path.{ap, ◌∙◌}
use lib.ListN.{replicate}
use Rattle.std.specs.Prelude.{Ok}
use Rattle.console.proofs.Answers.{zeros_long, judged_printed}
use Rattle.console.proofs.judge_rows.Goals as goal

pub returns-in-Ok-Some : goal.returns-in-Ok-Some
returns-in-Ok-Some c = judged_printed _ _ (replicate 16384 0) (replicate 3072 0) _ _ _ _ _ _ _ c.judge.ensures (zeros_long 16384) (zeros_long 3072) (c.in-Ok-Some.is ∙ ap Ok c.in-Ok-Some.field-0-is) c.put_answer.ensures

pub returns-in-Ok-None : goal.returns-in-Ok-None
returns-in-Ok-None c = judged_printed _ _ (replicate 16384 0) (replicate 3072 0) _ _ _ _ _ _ _ c.judge.ensures (zeros_long 16384) (zeros_long 3072) (c.in-Ok-None.is ∙ ap Ok c.in-Ok-None.field-0-is) c.put_answer-in-Ok-None.ensures

pub returns-in-Err : goal.returns-in-Err
returns-in-Err c = judged_printed _ _ (replicate 16384 0) (replicate 3072 0) _ _ _ _ _ _ _ c.judge.ensures (zeros_long 16384) (zeros_long 3072) c.in-Err.is c.put_refused.ensures
