-- At the loop's head what was read is kept. Assumes nothing.
use mathlib.Core.Path.{◌≡◌}
use Prim.Native.Nat.{◌-◌, ◌≤◌}
use lib.ListN.{length}
use Rattle.classes.specs.Classes.{class_table}
use Rattle.base.specs.Text.{byte_at}
use Rattle.jsontext.proofs.DecodedSlots.{Keeping}
use Rattle.jsontext.proofs.strings.read_on.Given as goal

abbrev pub invariant-loop-c : goal.invariant-loop-c
invariant-loop-c l = (l.i ≤ length l.text) × (byte_at l.text l.i ≡ 34 → ⊥) × (l.classes ≡ class_table → Keeping l.text l.at l.i l.k)

abbrev pub decreases-loop-c : goal.decreases-loop-c
decreases-loop-c l = length l.text - l.i
