-- `emptiness::places::Lists::of` meets its contract: the places before the loop's index are in their lists. Assumes nothing.
use Prim.Native.Nat.{◌≤◌, ◌*◌}
use Rattle.automaton.specs.Stored.{decode}
use Rattle.emptiness.specs.Places.{Linked}
use Rattle.emptiness.proofs.places.Lists.of.Given as goal

abbrev pub invariant-loop-p : goal.invariant-loop-p
invariant-loop-p l = (l.p ≤ l.set.rules * 4) × Linked (decode l.set.bytes.now) l.p l.lists.last l.lists.before
