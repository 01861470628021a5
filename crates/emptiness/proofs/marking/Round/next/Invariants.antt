-- `emptiness::marking::Round::next` meets its contract: the rules that name a state before the loop's index were tried. Assumes nothing.
use Prim.Native.Nat.{◌≤◌}
use Rattle.automaton.specs.Stored.{decode}
use Rattle.emptiness.specs.Marking.{Propagated}
use Rattle.emptiness.proofs.marking.Round.next.Given as goal

abbrev pub invariant-loop-x : goal.invariant-loop-x
invariant-loop-x l = (l.x ≤ l.self.count) × Propagated (decode l.set.bytes.now) l.self.marks l.self.added l.x l.round.marks l.round.added l.round.count
