-- At the loop's head all bytes so far are spaces. Assumes nothing.
use Prim.Native.Nat.{◌≤◌, max}
use mathlib.Core.Path.{◌≡◌}
use lib.ListN.{length}
use Rattle.classes.specs.Classes.{class_table}
use Rattle.jsontext.proofs.Blanks.{Blank}
use Rattle.jsontext.proofs.spaces.space_end.Given as goal

abbrev pub invariant-loop-i : goal.invariant-loop-i
invariant-loop-i l = (l.i ≤ max l.at (length l.text)) × (l.classes ≡ class_table → Blank l.text l.at l.i)
