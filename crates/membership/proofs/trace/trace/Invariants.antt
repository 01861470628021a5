-- `membership::trace::trace` meets its contract. Assumes nothing.
use Rattle.membership.proofs.Marks.{Tracing}
use Rattle.membership.proofs.trace.trace.Given as goal

abbrev pub invariant-loop-i : goal.invariant-loop-i
invariant-loop-i l = Tracing l.initial.work l.root l.work l.i
