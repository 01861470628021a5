-- The digits to come stand before those that the piece holds. Assumes nothing.
use Prim.Native.Nat.{◌-◌}
use Rattle.spelling.proofs.Pieces.{Hex}
use Rattle.spelling.proofs.piece.hex_of.Given as goal

abbrev pub invariant-loop : goal.invariant-loop
invariant-loop l = Hex l.n (16 - l.counter) l.rest l.p
