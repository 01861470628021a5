-- Each way through the definitions of a number's parts. Assumes nothing.
use mathlib.Core.Path.{◌≡◌, sym, ap, ◌∙◌}
use mathlib.Core.Bool.{Bool, true, false, ◌||◌}
use mathlib.Core.List.{List}
use Prim.Native.Nat.{ℕ, ◌+◌, ◌-◌}
use borrow.Author.Tests.{eq-eqb, ne_eqb}
use lib.Dec.{eqb}
use lib.ListN.{length}
use Rattle.base.specs.Text.{byte_at, got, fault}
use Rattle.classes.specs.Classes.{digit?}
use Rattle.jsontext.specs.Number.{Digits, Number, digits_of, no_digits, digits_from, some_digits, whole_at, sign_end, with_exponent, exponent_at, plain_number, after_fraction, fraction_at, after_whole, number_at}

-- digits from i on
module _ (t : List ℕ) (d : Digits) (i : ℕ) where
  pub some_digits_lem : digit? (byte_at t i) ≡ true → digits_from (length t - i) t d i ≡ some_digits t d i
  unfolding some_digits
  some_digits_lem e = rw e

  pub none_there : digit? (byte_at t i) ≡ false → fault i ≡ some_digits t d i
  unfolding some_digits
  none_there e = rw e

-- `+` or `-`; `e` or `E`
abbrev pub sign? : ℕ → Bool
sign? b = eqb b 43 || eqb b 45

abbrev pub exponent? : ℕ → Bool
exponent? b = eqb b 101 || eqb b 69

-- b being the byte at i
module _ (t : List ℕ) (i b : ℕ) (here : b ≡ byte_at t i) where
  is : (n : ℕ) → b ≡ n → eqb (byte_at t i) n ≡ true
  is n e = eq-eqb _ _ (sym here ∙ e)

  is_not : (n : ℕ) → (b ≡ n → ⊥) → eqb (byte_at t i) n ≡ false
  is_not n h = ne_eqb _ _ (λ e. h (here ∙ e))

  -- the whole part
  pub whole_digits : (b ≡ 48 → ⊥) → some_digits t no_digits i ≡ whole_at t i
  unfolding whole_at
  whole_digits h = rw (is_not 48 h)

  module _ (zero-digit : b ≡ 48) where
    pub whole_more : digit? (byte_at t (i + 1)) ≡ true → fault (i + 1) ≡ whole_at t i
    unfolding whole_at
    whole_more e = rw (is 48 zero-digit, e)

    pub whole_zero : digit? (byte_at t (i + 1)) ≡ false → got (digits_of 0 1) (i + 1) ≡ whole_at t i
    unfolding whole_at
    whole_zero e = rw (is 48 zero-digit, e)

  -- a sign
  pub sign_there : sign? b ≡ true → i + 1 ≡ sign_end t i
  unfolding sign_end
  sign_there e = rw (← here, e)

  pub sign_not : sign? b ≡ false → i ≡ sign_end t i
  unfolding sign_end
  sign_not e = rw (← here, e)

  -- an exponent, behind the digits of m
  module _ (m : Number) where
    letter : (r : Bool) → exponent? b ≡ r → exponent? (byte_at t i) ≡ r
    letter r e = ap exponent? (sym here) ∙ e

    pub exponent_there : exponent? b ≡ true → exponent_at t m i ≡ with_exponent m (some_digits t no_digits (sign_end t (i + 1)))
    unfolding exponent_at
    exponent_there e = rw (exponent_at, letter true e)

    pub exponent_none : exponent? b ≡ false → exponent_at t m i ≡ got m i
    unfolding exponent_at
    exponent_none e = rw (exponent_at, letter false e)

  -- a fraction, behind the whole part d
  module _ (s : Bool) (d : Digits) where
    pub fraction_none : (b ≡ 46 → ⊥) → fraction_at t s d i ≡ exponent_at t (plain_number s d 0 false) i
    unfolding fraction_at
    fraction_none h = rw (fraction_at, is_not 46 h)

    pub fraction_there : b ≡ 46 → fraction_at t s d i ≡ after_fraction t s d (some_digits t d (i + 1))
    unfolding fraction_at
    fraction_there e = rw (fraction_at, is 46 e)

  -- the whole number
  pub number_negative : b ≡ 45 → number_at t i ≡ after_whole t true (whole_at t (i + 1))
  unfolding number_at
  number_negative e = rw (number_at, is 45 e)

  pub number_plain : (b ≡ 45 → ⊥) → number_at t i ≡ after_whole t false (whole_at t i)
  unfolding number_at
  number_plain h = rw (number_at, is_not 45 h)
