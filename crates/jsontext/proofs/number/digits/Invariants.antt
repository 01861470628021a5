-- At the loop's head the digits left come to the whole of them. Assumes nothing.
use mathlib.Core.Path.{◌≡◌}
use Prim.Native.Nat.{◌≤◌, max}
use lib.ListN.{length}
use Rattle.classes.specs.Classes.{class_table}
use Rattle.jsontext.proofs.DigitRuns.{Scanned}
use Rattle.jsontext.proofs.number.digits.Given as goal

abbrev pub invariant-loop-i : goal.invariant-loop-i
invariant-loop-i l = Scanned (l.classes ≡ class_table) l.text l.initial.run l.at l.run l.i × (l.i ≤ max l.at (length l.text))
