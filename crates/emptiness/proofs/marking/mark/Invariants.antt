-- `emptiness::marking::mark` meets its contract: before each turn of the loop no final state was marked in an earlier round. Assumes nothing.
use Prim.Native.Nat.{◌≤◌}
use Rattle.automaton.specs.Stored.{decode}
use Rattle.emptiness.proofs.Turns.{Turn}
use Rattle.emptiness.proofs.marking.mark.Given as goal

abbrev pub invariant-loop-n : goal.invariant-loop-n
invariant-loop-n l = (l.n ≤ l.set.states) × Turn (decode l.set.bytes.now) l.n l.round.marks l.round.added l.round.count
