use native.Mathlib.Omega.{arith}
use Rattle.emptiness.proofs.Marks.{propagated_all, propagating}
use Rattle.emptiness.proofs.marking.Round.next.Goals as goal

pub loop-x-init : goal.loop-x-init
loop-x-init c = search propagating

pub loop-x-preserved : goal.loop-x-preserved
loop-x-preserved c = search propagating

pub returns : goal.returns
returns c = propagated_all _ _ _ _ _ _ _ _ c.loop-x.invariant.1 c.loop-x.invariant.0 (omega arith)
