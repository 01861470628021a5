use native.Mathlib.Omega.{arith}
use Rattle.spelling.proofs.Pieces.{hex_room, hex_more, hex_all}
use Rattle.spelling.proofs.piece.hex_of.Goals as goal

pub before-p-requires : goal.before-p-requires
before-p-requires c = hex_room _ _ _ _ c.loop.invariant (omega arith)

pub loop-preserved : goal.loop-preserved
loop-preserved c = hex_more _ _ _ _ c.loop.invariant _ _ _ (omega arith) (omega arith) c.hex_digit.ensures c.before-p.ensures

pub returns : goal.returns
returns c = hex_all _ _ _ _ c.loop.invariant (omega arith)
