-- A sign stands inside the text. Assumes nothing.
use Rattle.jsontext.proofs.NumberWays.{sign_there, sign_not}
use Rattle.jsontext.proofs.number.sign_end.Goals as goal

pub returns-then-b : goal.returns-then-b
returns-then-b c = sign_there _ _ _ c.byte_at-b.ensures c.if-b.true

pub returns-else-b : goal.returns-else-b
returns-else-b c = sign_not _ _ _ c.byte_at-b.ensures c.if-b.false
