-- At the loop's head the same bytes were read of both strings. Assumes nothing.
use mathlib.Core.Path.{◌≡◌}
use Prim.Native.Nat.{◌-◌, ◌≤◌}
use lib.ListN.{length}
use Rattle.classes.specs.Classes.{class_table}
use Rattle.jsontext.proofs.Comparing.{Both}
use Rattle.jsontext.proofs.decoded.same_quoted.Given as goal

abbrev pub invariant-loop-a : goal.invariant-loop-a
invariant-loop-a l = (l.i ≤ length l.text) × (l.j ≤ length l.text) × (l.classes ≡ class_table → Both l.text l.a l.b l.i l.j)

abbrev pub decreases-loop-a : goal.decreases-loop-a
decreases-loop-a l = length l.text - l.i
