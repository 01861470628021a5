-- The definition's tests. Assumes nothing.
use mathlib.Core.Path.{ap, ◌∙◌}
use Prim.Native.Nat.{ℕ}
use native.Mathlib.Omega.{arith}
use Rattle.std.specs.Prelude.{Result}
use Rattle.base.specs.declared.text.Fault.{Fault}
use Rattle.jsontext.specs.Strings.{as_code, as_pair}
use Rattle.jsontext.specs.StringAnswers.{hex_of}
use Rattle.jsontext.proofs.Failing.{handed}
use Rattle.jsontext.proofs.Ways.{pair_none, pair_other, pair_is}
use Rattle.jsontext.proofs.pieces.pair.Goals as goal

pub returns-then-byte_at-ne92 : goal.returns-then-byte_at-ne92
returns-then-byte_at-ne92 c = record { answer = λ l. pair_none _ _ _ _ c.byte_at.ensures c.if-byte_at-ne92.true; inside = tt }

pub returns-then-byte_at-ne117 : goal.returns-then-byte_at-ne117
returns-then-byte_at-ne117 c = record { answer = λ l. pair_other _ _ _ _ _ c.byte_at.ensures c.if-byte_at-ne92.false c.byte_at-2.ensures c.if-byte_at-ne117.true; inside = tt }

pub returns-in_err-w-clause-answer : goal.returns-in_err-w-clause-answer
returns-in_err-w-clause-answer c l =
    ap (λ (r : Result (ℕ × ℕ) Fault). as_code (hex_of r)) (handed _ c.from_residual.ensures.1)
    ∙ ap (as_pair c.args.v) (c.in_err-w.ensures.answer l)
    ∙ pair_is _ _ _ _ _ c.byte_at.ensures c.if-byte_at-ne92.false c.byte_at-2.ensures c.if-byte_at-ne117.false

pub returns : goal.returns
returns c =
    record {
      answer = λ l. ap (as_pair c.args.v) (c.in_ok-w.ensures.answer l) ∙ pair_is _ _ _ _ _ c.byte_at.ensures c.if-byte_at-ne92.false c.byte_at-2.ensures c.if-byte_at-ne117.false;
      inside = record { forward = omega (arith, c.in_ok-w.ensures.inside.forward); inside = c.in_ok-w.ensures.inside.inside };
    }
