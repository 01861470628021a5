-- `emptiness::marking::Round::lowest_final` meets its contract: the lowest among the states before the loop's index. Assumes nothing.
use Prim.Native.Nat.{◌≤◌}
use Rattle.automaton.specs.Stored.{decode}
use Rattle.emptiness.specs.Marking.{LowestAdded}
use Rattle.emptiness.proofs.marking.Round.lowest_final.Given as goal

abbrev pub invariant-loop-x : goal.invariant-loop-x
invariant-loop-x l = (l.x ≤ l.self.count) × LowestAdded (decode l.set.bytes.now) l.self.added l.x l.best
