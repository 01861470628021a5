-- `base::space::put` meets its contract. Assumes nothing.
use native.Mathlib.Omega.{arith}
use Rattle.base.proofs.Copying.{copied_none, copied_more, copied_all, not_copied}
use Rattle.base.proofs.space.put.Goals as goal
use Rattle.base.proofs.space.put.Goals.{else-n-out-via-then-n-out+else-at-out, else-n-out-via-else-n-out}

pub loop-i-init : goal.loop-i-init
loop-i-init g c = copied_none _ _ _ (omega arith)

pub loop-i-preserved : goal.loop-i-preserved
loop-i-preserved g c = rw c.index-items-i.is (copied_more _ _ _ c.loop-i.i c.index-items-i.result c.loop-i.out c.loop-i.invariant c.loop-i-test.true)

pub returns-after-loop-i : goal.returns-after-loop-i
returns-after-loop-i g c = copied_all _ _ _ c.loop-i.i c.loop-i.out c.loop-i.invariant c.loop-i-test.false

pub returns-else-n-out : goal.returns-else-n-out
returns-else-n-out g c =
    elim c.else-n-out.branch [
      | else-n-out-via-then-n-out+else-at-out w ↦ not_copied _ _ _ (omega arith)
      | else-n-out-via-else-n-out w ↦ not_copied _ _ _ (omega arith)
    ]
