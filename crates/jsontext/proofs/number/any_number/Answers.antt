-- A minus stands inside the text. Assumes nothing.
use mathlib.Core.Path.{sym, ap, ◌∙◌}
use Rattle.jsontext.specs.Number.{as_scalar}
use Rattle.jsontext.proofs.NumberWays.{number_negative, number_plain}
use Rattle.jsontext.proofs.number.any_number.Goals as goal

pub returns-then-byte_at-eq45 : goal.returns-then-byte_at-eq45
returns-then-byte_at-eq45 c = λ l. c.behind_sign.ensures l ∙ ap as_scalar (sym (number_negative _ _ _ c.byte_at.ensures c.if-byte_at-eq45.true))

pub returns : goal.returns
returns c = λ l. c.behind_sign-2.ensures l ∙ ap as_scalar (sym (number_plain _ _ _ c.byte_at.ensures c.if-byte_at-eq45.false))
