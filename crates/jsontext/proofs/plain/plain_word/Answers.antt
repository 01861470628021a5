-- Up to the lowest mark. Assumes nothing.
use Rattle.jsontext.proofs.Bytewise.{plains_front}
use Rattle.jsontext.proofs.plain.plain_word.Goals as goal

pub returns : goal.returns
returns c = plains_front _ _ _ c.requires c.word_marks.ensures
