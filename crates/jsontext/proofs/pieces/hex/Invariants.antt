-- At the loop's head k digits were read. Assumes nothing.
use mathlib.Core.Path.{◌≡◌}
use Prim.Native.Nat.{◌+◌}
use Rattle.classes.specs.Classes.{class_table}
use Rattle.jsontext.proofs.HexDigits.{Hex}
use Rattle.jsontext.proofs.pieces.hex.Given as goal

abbrev pub invariant-loop-k : goal.invariant-loop-k
invariant-loop-k l = Hex (l.classes ≡ class_table) l.text l.at l.v l.k (l.at + l.k)
