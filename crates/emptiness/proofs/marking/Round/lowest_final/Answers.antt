use native.Mathlib.Omega.{arith}
use Rattle.emptiness.proofs.Marks.{low_all, low_this, low_other}
use Rattle.emptiness.proofs.marking.Round.lowest_final.Goals.{then-is_final-is_lower, else-is_final-is_lower}
use Rattle.emptiness.proofs.marking.Round.lowest_final.Goals as goal

pub loop-x-preserved : goal.loop-x-preserved
loop-x-preserved c = (
  omega arith,
  elim c.if-is_final-is_lower.branch [
    | then-is_final-is_lower w ↦ rw w.best-is (low_this _ _ _ _ c.state_at-q.result c.loop-x.invariant.1 c.state_at-q.ensures _ _ c.is_final.ensures c.is_lower.ensures w.if-is_final-is_lower.true)
    | else-is_final-is_lower w ↦ rw w.best-is (low_other _ _ _ _ c.state_at-q.result c.loop-x.invariant.1 c.state_at-q.ensures _ _ c.is_final.ensures c.is_lower.ensures w.if-is_final-is_lower.false)
  ],
)

pub returns : goal.returns
returns c = low_all _ _ _ _ _ c.loop-x.invariant.1 c.loop-x.invariant.0 (omega arith)
