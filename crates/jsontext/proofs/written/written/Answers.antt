-- Between the quotes stand the bytes, each of which stands for itself. Assumes nothing.
use Rattle.jsontext.proofs.Writing.{between_quotes}
use Rattle.jsontext.proofs.written.written.Goals as goal

pub returns : goal.returns
returns c e = between_quotes _ _ _ _ c.if-text-at-ne34.false c.if-text-at-ne34-2.false (c.same_part.ensures e)
