-- `runs::memories::from_children` meets its contract: the invariant says what the places from k on still add. Assumes nothing.
use Rattle.runs.proofs.Joining.{Joining}
use Rattle.runs.proofs.memories.from_children.Given as goal

abbrev pub invariant-loop-k : goal.invariant-loop-k
invariant-loop-k l = Joining l.run l.cells l.i.0 l.j l.k
