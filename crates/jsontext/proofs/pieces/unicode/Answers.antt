-- The definition's tests. Assumes nothing.
use mathlib.Core.Path.{ap, ◌∙◌}
use Prim.Native.Nat.{ℕ}
use native.Mathlib.Omega.{arith}
use Rattle.std.specs.Prelude.{Result}
use Rattle.base.specs.declared.text.Fault.{Fault}
use Rattle.jsontext.specs.Strings.{as_code}
use Rattle.jsontext.specs.StringAnswers.{hex_of}
use Rattle.jsontext.proofs.Failing.{handed}
use Rattle.jsontext.proofs.PieceEnds.{escape_later}
use Rattle.jsontext.proofs.Ways.{unicode_bad, unicode_pair, unicode_one}
use Rattle.jsontext.proofs.pieces.unicode.Goals as goal

pub returns-then-v : goal.returns-then-v
returns-then-v c = record { answer = λ l. c.pair.ensures.answer l ∙ unicode_pair _ _ _ _ (c.in_ok-v.ensures.answer l) c.if-v.true; inside = escape_later _ _ _ c.pair.result (omega (arith, c.in_ok-v.ensures.inside.forward)) c.pair.ensures.inside }

pub returns-in_err-v-clause-answer : goal.returns-in_err-v-clause-answer
returns-in_err-v-clause-answer c l = ap (λ (r : Result (ℕ × ℕ) Fault). as_code (hex_of r)) (handed _ c.from_residual.ensures.1) ∙ unicode_bad _ _ _ (c.in_err-v.ensures.answer l)

pub returns : goal.returns
returns c = record { answer = λ l. unicode_one _ _ _ _ (c.in_ok-v.ensures.answer l) c.if-v.false; inside = record { forward = omega (arith, c.in_ok-v.ensures.inside.forward); inside = c.in_ok-v.ensures.inside.inside } }
