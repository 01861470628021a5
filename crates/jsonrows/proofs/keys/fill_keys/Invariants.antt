-- At the loop's head the first n lines are entered and the next one starts at a. Assumes nothing.
use Prim.Native.Nat.{◌-◌}
use Rattle.jsonrows.specs.Keys.{max_keys}
use Rattle.jsonrows.proofs.KeyFilling.{Filling}
use Rattle.jsonrows.proofs.keys.fill_keys.Given as goal

abbrev pub invariant-loop-a : goal.invariant-loop-a
invariant-loop-a l = Filling l.list l.places l.key_slots l.n l.a

abbrev pub decreases-loop-a : goal.decreases-loop-a
decreases-loop-a l = max_keys - l.n
