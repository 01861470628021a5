-- Each way through the definition; a 0 stands inside the text. Assumes nothing.
use mathlib.Core.Path.{refl, sym, ap, ◌∙◌}
use native.Mathlib.Omega.{arith}
use Rattle.classes.specs.Classes.{digit?}
use Rattle.jsontext.specs.Number.{no_digits}
use Rattle.jsontext.specs.NumberAnswer.{carried_at}
use Rattle.jsontext.proofs.NumberWays.{whole_digits, whole_more, whole_zero}
use Rattle.jsontext.proofs.number.whole_part.Goals as goal

pub returns-then-byte_at-ne48 : goal.returns-then-byte_at-ne48
returns-then-byte_at-ne48 c = record { value = λ l. c.some_digits.ensures.value l no_digits refl ∙ ap carried_at (whole_digits _ _ _ c.byte_at.ensures c.if-byte_at-ne48.true); bounds = c.some_digits.ensures.bounds }

pub returns-then-is_digit : goal.returns-then-is_digit
returns-then-is_digit c =
    record {
      value = λ l. ap carried_at
          (whole_more _ _ _ c.byte_at.ensures c.if-byte_at-ne48.false
          (ap digit? (sym c.byte_at-2.ensures) ∙ sym (c.is_digit.ensures.compared l) ∙ c.if-is_digit.true));
      bounds = tt;
    }

pub returns : goal.returns
returns c =
    record {
      value = λ l. ap carried_at
          (whole_zero _ _ _ c.byte_at.ensures c.if-byte_at-ne48.false
          (ap digit? (sym c.byte_at-2.ensures) ∙ sym (c.is_digit.ensures.compared l) ∙ c.if-is_digit.false));
      bounds = (record { short = record { short = omega arith }; few = omega arith }, omega arith);
    }
