-- The letter of an exponent stands inside the text. Assumes nothing.
use mathlib.Core.Path.{sym, ap, ◌∙◌}
use mathlib.Core.Option.{Option}
use Rattle.std.specs.Prelude.{is_some, unwrap_or}
use Rattle.document.specs.declared.scalar.Scalar.{Scalar}
use Rattle.base.specs.Text.{got}
use Rattle.jsontext.specs.Number.{plain_number, as_scalar}
use Rattle.jsontext.proofs.NumberWays.{exponent_there, exponent_none}
use Rattle.jsontext.proofs.number.behind_digits.Goals as goal

pub returns-then-b : goal.returns-then-b
returns-then-b c = λ l d e. let m = plain_number c.args.negative d (unwrap_or c.args.places 0) (is_some c.args.places) in c.exponent.ensures l m ∙ ap as_scalar (sym (exponent_there _ _ _ c.byte_at-b.ensures m c.if-b.true))

pub returns : goal.returns
returns c = λ l d e. ap (λ (o : Option Scalar). got o c.args.at) (c.as_scalar.ensures d e) ∙ ap as_scalar (sym (exponent_none _ _ _ c.byte_at-b.ensures _ c.if-b.false))
