-- `membership::write::write_steps` meets its contract. Assumes nothing.
use Rattle.membership.proofs.Writing.{Writing}
use Rattle.membership.proofs.write.write_steps.Given as goal

abbrev pub invariant-loop-j : goal.invariant-loop-j
invariant-loop-j l = Writing l.initial.work l.initial.run l.root l.work l.run l.s l.j
