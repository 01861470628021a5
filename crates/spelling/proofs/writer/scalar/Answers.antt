-- `spelling::writer::scalar` meets its contract: the piece's text is put. Assumes nothing.
use native.Mathlib.Omega.{arith}
use Rattle.spelling.proofs.Putting.{piece_wrote}
use Rattle.spelling.proofs.writer.scalar.Goals as goal

pub overflow_add-result : goal.overflow_add-result
overflow_add-result c =
    let w = piece_wrote _ _ _ _ _ _ c.scalar_at-p.ensures (c.put_piece.ensures.count, c.put_piece.ensures.space) in
    omega (arith, w.place, c.requires)

pub returns : goal.returns
returns c = piece_wrote _ _ _ _ _ _ c.scalar_at-p.ensures (c.put_piece.ensures.count, c.put_piece.ensures.space)
