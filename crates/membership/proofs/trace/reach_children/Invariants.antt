-- `membership::trace::reach_children` meets its contract. Assumes nothing.
use Rattle.membership.proofs.Marks.{Reaching}
use Rattle.membership.proofs.trace.reach_children.Given as goal

abbrev pub invariant-loop-p : goal.invariant-loop-p
invariant-loop-p l = Reaching l.initial.work l.j l.work l.p
