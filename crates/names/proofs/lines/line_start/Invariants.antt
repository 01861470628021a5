-- At the loop's head the line that is counted starts at a; behind the last line nothing starts. Assumes nothing.
use Rattle.names.specs.Places.{Starts}
use Rattle.names.proofs.lines.line_start.Given as goal

abbrev pub invariant-loop : goal.invariant-loop
invariant-loop l = Starts l.s l.counter l.a
