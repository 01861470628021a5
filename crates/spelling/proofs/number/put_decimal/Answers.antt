-- `spelling::number::put_decimal` meets its contract: the piece holds the digits. Assumes nothing.
use native.Mathlib.Omega.{arith}
use Rattle.spelling.proofs.Pieces.{text_put}
use Rattle.spelling.proofs.number.put_decimal.Goals as goal

pub returns : goal.returns
returns c =
    let (holds, spare) = c.decimal_of-p.ensures in
    let (count, space) = text_put _ _ _ _ _ _ holds (c.put_piece.ensures.count, c.put_piece.ensures.space) in
    record { count = count; space = space; few = omega (arith, count, holds.size) }
