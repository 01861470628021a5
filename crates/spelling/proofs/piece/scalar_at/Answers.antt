-- `spelling::piece::scalar_at` meets its contract: the text is that of the row's kind and payload. Assumes nothing.
use Rattle.spelling.proofs.piece.scalar_at.Goals as goal

pub returns : goal.returns
returns c = rw (c.kind.ensures, c.payload.ensures) at c.scalar_text.ensures
