-- `spelling::writer::byte` meets its contract. Assumes nothing.
use Rattle.spelling.proofs.Putting.{one_byte}
use Rattle.spelling.proofs.writer.byte.Goals as goal

pub returns : goal.returns
returns c = one_byte _ _ _ c.requires
