-- At the loop's head the first k bytes were read. Assumes nothing.
use mathlib.Core.Path.{◌≡◌}
use Prim.Native.Nat.{◌-◌, ◌≤◌}
use lib.ListN.{length}
use Rattle.classes.specs.Classes.{class_table}
use Rattle.jsontext.proofs.Comparing.{Running}
use Rattle.jsontext.proofs.decoded.is_text.Given as goal

abbrev pub invariant-loop-at : goal.invariant-loop-at
invariant-loop-at l = (l.i ≤ length l.text) × (l.k ≤ length l.bytes) × (l.classes ≡ class_table → Running l.text l.at l.bytes l.i l.k)

abbrev pub decreases-loop-at : goal.decreases-loop-at
decreases-loop-at l = length l.text - l.i
