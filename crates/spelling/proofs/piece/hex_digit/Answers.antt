-- `spelling::piece::hex_digit` meets its contract: the sum is the digit's byte. Assumes nothing.
use borrow.Author.Rules.{rules}
use Rattle.spelling.proofs.HexDigits.{hex_sum}
use Rattle.spelling.proofs.piece.hex_digit.Goals as goal

pub returns : goal.returns
returns c = hex_sum _ (search rules)
