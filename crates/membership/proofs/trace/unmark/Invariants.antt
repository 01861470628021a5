-- `membership::trace::unmark` meets its contract. Assumes nothing.
use Rattle.membership.proofs.Marks.{Unmarking}
use Rattle.membership.proofs.trace.unmark.Given as goal

abbrev pub invariant-loop-j : goal.invariant-loop-j
invariant-loop-j l = Unmarking l.initial.work l.n l.work l.j
