-- At the loop's head k lines are passed and the next starts at a. Assumes nothing.
use Rattle.names.proofs.Listed.{LinesPassed}
use Rattle.names.proofs.lines.list_fits.Given as goal

abbrev pub invariant-loop : goal.invariant-loop
invariant-loop l = LinesPassed l.s l.counter l.a
