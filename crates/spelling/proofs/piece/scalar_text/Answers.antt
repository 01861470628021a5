-- `spelling::piece::scalar_text` meets its contract, kind by kind. Assumes nothing.
use borrow.Author.Rules.{rules}
use Rattle.spelling.proofs.Pieces.{bare_holds, flag_holds, count_holds, rate_holds, name_holds, hex_start}
use Rattle.spelling.proofs.piece.scalar_text.Goals as goal

pub before-requires-in-3 : goal.before-requires-in-3
before-requires-in-3 c = hex_start _ _ c.hex_of.ensures

pub returns-in-0 : goal.returns-in-0
returns-in-0 c = rw c.in-0.is (bare_holds _ _ c.nothing.ensures)

pub returns-in-1 : goal.returns-in-1
returns-in-1 c = rw c.in-1.is (flag_holds _ _ c.flag_of.ensures)

pub returns-in-2 : goal.returns-in-2
returns-in-2 c = rw c.in-2.is (count_holds _ _ _ c.before-in-2.ensures c.decimal_of.ensures.0)

pub returns-in-3 : goal.returns-in-3
returns-in-3 c = rw c.in-3.is (rate_holds _ _ _ c.before-in-3.ensures c.hex_of.ensures)

pub returns-in_default : goal.returns-in_default
returns-in_default c =
    name_holds _ _ _ _ (search rules) (search rules) (search rules) (search rules) c.before-in_default.ensures c.decimal_of-in_default.ensures.0
