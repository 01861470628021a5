-- The definition's tests. Assumes nothing.
use mathlib.Core.Path.{refl, sym, ◌∙◌}
use native.Mathlib.Omega.{arith}
use Rattle.jsontext.proofs.PieceEnds.{escape_later}
use Rattle.jsontext.proofs.Ways.{escape_unicode, escape_bad, escape_simple, simple_inside}
use Rattle.jsontext.proofs.pieces.escape.Goals as goal

pub returns-then-b-eq117 : goal.returns-then-b-eq117
returns-then-b-eq117 c = record { answer = λ l. c.unicode.ensures.answer l ∙ escape_unicode _ _ _ c.byte_at-b.ensures c.if-b-eq117.true; inside = escape_later _ _ _ c.unicode.result (omega arith) c.unicode.ensures.inside }

pub returns-in_default-clause-answer : goal.returns-in_default-clause-answer
returns-in_default-clause-answer c l = escape_bad _ _ _ 0 c.byte_at-b.ensures c.if-b-eq117.false (sym c.in_default.ensures) refl

pub returns : goal.returns
returns c =
    let (is, some) = c.in-Some.ensures in
    record {
      answer = λ l. escape_simple _ _ _ _ c.byte_at-b.ensures c.if-b-eq117.false is (λ z. omega (arith, z, some));
      inside = record { forward = omega arith; inside = omega (arith, simple_inside c.args.text.now c.args.at _ c.in-Some.c c.byte_at-b.ensures is (λ z. omega (arith, z, some))) };
    }
