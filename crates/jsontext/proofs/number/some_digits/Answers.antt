-- One digit, then all of them. Assumes nothing.
use mathlib.Core.Path.{sym, ap, ◌∙◌}
use Rattle.classes.specs.Classes.{digit?}
use Rattle.jsontext.specs.NumberAnswer.{carried_at}
use Rattle.jsontext.proofs.NumberWays.{some_digits_lem, none_there}
use Rattle.jsontext.proofs.number.some_digits.Goals as goal

pub returns-then-is_digit : goal.returns-then-is_digit
returns-then-is_digit c =
    record {
      value = λ l d e.
          c.digits.ensures.value l d e
          ∙ ap carried_at (some_digits_lem _ d _ (ap digit? (sym c.byte_at.ensures) ∙ sym (c.is_digit.ensures.compared l) ∙ c.if-is_digit.true));
      bounds = c.digits.ensures.bounds;
    }

pub returns : goal.returns
returns c = record { value = λ l d e. ap carried_at (none_there _ d _ (ap digit? (sym c.byte_at.ensures) ∙ sym (c.is_digit.ensures.compared l) ∙ c.if-is_digit.false)); bounds = tt }
