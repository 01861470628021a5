-- `spelling::piece::decimal_of` meets its contract: the digits to come stand before those that the piece holds. Assumes nothing.
use Rattle.spelling.proofs.Pieces.{Digits}
use Rattle.spelling.proofs.piece.decimal_of.Given as goal

abbrev pub invariant-loop-rest : goal.invariant-loop-rest
invariant-loop-rest l = Digits l.n l.rest l.p

abbrev pub decreases-loop-rest : goal.decreases-loop-rest
decreases-loop-rest l = l.rest
