-- The reader's answer decides. Assumes nothing.
use mathlib.Core.Path.{sym}
use lib.ListN.{replicate}
use lib.Seq.{length-take-le}
use Rattle.console.proofs.Answers.{zeros_long, read_fits, read_printed}
use Rattle.console.proofs.judge_text.Goals as goal

pub slice_bounds-rows-end : goal.slice_bounds-rows-end
slice_bounds-rows-end c = rw c.from-cells.ensures (read_fits _ _ (replicate 10240 0) _ _ _ c.read.ensures.answer c.read.ensures.space c.in-Ok.is)

pub slice_bounds-judge_rows-end : goal.slice_bounds-judge_rows-end
slice_bounds-judge_rows-end c = sym (length-take-le _ _ (rw c.from-cells.ensures (read_fits _ _ (replicate 10240 0) _ _ _ c.read.ensures.answer c.read.ensures.space c.in-Ok.is)))

pub returns-in-Ok : goal.returns-in-Ok
returns-in-Ok c = read_printed _ _ (replicate 10240 0) _ _ _ _ _ _ (zeros_long 10240) c.read.ensures.answer c.read.ensures.space c.in-Ok.is (rw c.from-cells.ensures at c.judge_rows.ensures)

pub returns-in-Err : goal.returns-in-Err
returns-in-Err c = read_printed _ _ (replicate 10240 0) _ _ _ _ _ _ (zeros_long 10240) c.read.ensures.answer c.read.ensures.space c.in-Err.is c.put_refusal.ensures
