-- `console::judge` meets its contract: the length of the input decides, then the set and the text in it are judged. Assumes nothing.
use mathlib.Core.Path.{sym, ◌∙◌}
use native.Mathlib.Omega.{arith}
use lib.Seq.{length-take-le}
use Rattle.console.proofs.Outputs.{judge_beyond, judge_within}
use Rattle.console.proofs.judge.Goals as goal

pub returns-then-input-gt-MAX_INPUT : goal.returns-then-input-gt-MAX_INPUT
returns-then-input-gt-MAX_INPUT c = let r = judge_beyond _ _ _ _ c.if-input-gt-MAX_INPUT.true c.put_refused.ensures in record { printed = r.0; fits = r.1 }

pub slice_bounds-judge_text-end : goal.slice_bounds-judge_text-end
slice_bounds-judge_text-end c = sym (length-take-le _ _ (omega (arith, c.min-total.ensures)))

pub returns : goal.returns
returns c = let r = judge_within _ _ _ _ _ _ c.if-input-gt-MAX_INPUT.false (c.from-stated.ensures ∙ c.header.ensures.total) c.min-total.ensures c.judge_text.ensures in record { printed = r.0; fits = r.1 }
