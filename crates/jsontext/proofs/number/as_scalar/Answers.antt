-- A count, a rate of at most 15 digits, or none. Assumes nothing.
use mathlib.Core.Path.{◌≡◌, ap, ◌∙◌}
use mathlib.Core.Bool.{Bool, true, false, not, ◌&&◌}
use native.Mathlib.Omega.{arith}
use Rattle.jsontext.specs.Number.{rate}
use Rattle.jsontext.proofs.DigitRuns.{short_some, short_up}
use Rattle.jsontext.proofs.NumberScalars.{as_past, as_count, as_none, as_rate}
use Rattle.jsontext.proofs.number.as_scalar.Goals as goal

-- whether there is a fraction, from the test for none
back : (a b : Bool) → a ≡ not b → not a ≡ b
back a true e = ap not e
back a false e = ap not e

pub returns-in_default : goal.returns-in_default
returns-in_default c = λ d e. as_past _ _ _ _ d e c.in_default.is c.requires.0

pub returns-then-negative-is_none : goal.returns-then-negative-is_none
returns-then-negative-is_none c = λ d e. as_count _ _ _ _ d e _ c.in-Some.is (ap (λ (b : Bool). not c.args.negative && b) (back _ _ c.is_none.ensures) ∙ c.if-negative-is_none.true)

pub returns-then-digits-gt-MAX_DIGITS : goal.returns-then-digits-gt-MAX_DIGITS
returns-then-digits-gt-MAX_DIGITS c = λ d e. as_none _ _ _ _ d e _ c.in-Some.is (ap (λ (b : Bool). not c.args.negative && b) (back _ _ c.is_none.ensures) ∙ c.if-negative-is_none.false) c.if-digits-gt-MAX_DIGITS.true

pub rate-requires : goal.rate-requires
rate-requires c = (omega (arith, short_up _ _ (short_some _ _ c.in-Some.is c.requires.0) 15 c.if-digits-gt-MAX_DIGITS.false), omega (arith, c.requires.1, c.unwrap_or.ensures, c.if-digits-gt-MAX_DIGITS.false))

pub returns : goal.returns
returns c =
    λ d e.
    as_rate _ _ _ _ d e _ c.in-Some.is (ap (λ (b : Bool). not c.args.negative && b) (back _ _ c.is_none.ensures) ∙ c.if-negative-is_none.false) c.if-digits-gt-MAX_DIGITS.false _ _
    (c.rate.ensures ∙ ap (rate c.args.negative c.in-Some.value) c.unwrap_or.ensures) c.bits_of.ensures
