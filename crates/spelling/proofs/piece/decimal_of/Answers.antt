use native.Mathlib.Omega.{arith}
use Rattle.spelling.proofs.Pieces.{digits_room, digits_all, digits}
use Rattle.spelling.proofs.piece.decimal_of.Goals as goal

pub before-p-requires : goal.before-p-requires
before-p-requires c = digits_room _ _ _ c.loop-rest.invariant (omega arith)

pub loop-rest-preserved : goal.loop-rest-preserved
loop-rest-preserved c = search digits

pub before-requires : goal.before-requires
before-requires c = digits_room _ _ _ c.loop-rest.invariant (omega arith)

pub returns : goal.returns
returns c = digits_all _ _ _ c.loop-rest.invariant _ _ c.before-2.ensures (omega arith) (omega arith) c.digit-2.ensures
