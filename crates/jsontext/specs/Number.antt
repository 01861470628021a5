-- A JSON number at a place (RFC 8259, section 6), and the scalar that it becomes (document 02, Wish 1 and Wish 6). Assumes nothing.
use Rattle.std.specs.Prelude.{List, Bool, true, false, not, ◌&&◌, ◌||◌, cond, ℕ, zero, suc, ◌+◌, ◌-◌, ◌*◌, ◌^◌, eqb, leb, ltb, pos, length, Float}
use Rattle.std.proofs.Math.Option.{Option, none, some}
use Rattle.std.specs.Float.{binary64}
use Rattle.std.specs.Float.Ieee.{neg, div, of_int, to_bits}
use Rattle.classes.specs.Classes.{digit?}
use Rattle.base.specs.Text.{byte_at, Got, got, fault}
use Rattle.document.specs.Scalars.{row_rate}
use Rattle.document.specs.declared.scalar.Scalar.{Scalar}
use Rattle.document.specs.declared.scalar.Scalar.TheVariants.{Count}

-- digits: the whole number that they come to, and how many they are
pub record Digits : Type 0 where
  pub value : ℕ
  pub count : ℕ

abbrev pub digits_of : ℕ → ℕ → Digits
digits_of v n = record { value = v; count = n }

-- no digits yet
abbrev pub no_digits : Digits
no_digits = digits_of 0 0

-- a digit more
abbrev pub with_digit : Digits → ℕ → Digits
with_digit d b = digits_of (d.value * 10 + (b - 48)) (d.count + 1)

-- a number: its sign, all its digits, how many of them stand behind the point, and whether it has a fraction and an exponent
pub record Number : Type 0 where
  pub negative : Bool
  pub digits : Digits
  pub places : ℕ
  pub fraction : Bool
  pub exponent : Bool

-- the digits from i on, after others, of which at most the first number are looked at
unfoldable pub digits_from : ℕ → List ℕ → Digits → ℕ → Got Digits
digits_from zero t d i = got d i
digits_from (suc f) t d i = elim (digit? (byte_at t i)) [ true ↦ digits_from f t (with_digit d (byte_at t i)) (i + 1) | false ↦ got d i ]

-- all digits from i on, of which there is one or more
unfoldable pub some_digits : List ℕ → Digits → ℕ → Got Digits
unfolding digits_from
some_digits t d i = cond (digit? (byte_at t i)) (digits_from (length t - i) t d i) (fault i)

-- the whole part: 0 with no digit after it, or digits that begin with another
unfoldable pub whole_at : List ℕ → ℕ → Got Digits
unfolding some_digits
whole_at t i =
    cond (eqb (byte_at t i) 48)
    (cond (digit? (byte_at t (i + 1))) (fault (i + 1)) (got (digits_of 0 1) (i + 1)))
    (some_digits t no_digits i)

-- the place after a sign, where there is one
unfoldable pub sign_end : List ℕ → ℕ → ℕ
sign_end t i = cond (eqb (byte_at t i) 43 || eqb (byte_at t i) 45) (i + 1) i

-- what was read before an exponent, with the exponent's end
abbrev pub with_exponent : Number → Got Digits → Got Number
with_exponent m (got e n) = got (record { negative = m.negative; digits = m.digits; places = m.places; fraction = m.fraction; exponent = true }) n
with_exponent m (fault p) = fault p

-- behind the digits: an exponent, or none
unfoldable pub exponent_at : List ℕ → Number → ℕ → Got Number
exponent_at t m i =
    elim (eqb (byte_at t i) 101 || eqb (byte_at t i) 69) [ true ↦ with_exponent m (some_digits t no_digits (sign_end t (i + 1))) | false ↦ got m i ]

-- a number without exponent
abbrev pub plain_number : Bool → Digits → ℕ → Bool → Number
plain_number s d k f = record { negative = s; digits = d; places = k; fraction = f; exponent = false }

-- behind the fraction's digits e, which follow the digits d
abbrev pub after_fraction : List ℕ → Bool → Digits → Got Digits → Got Number
after_fraction t s d (got e n) = exponent_at t (plain_number s e (e.count - d.count) true) n
after_fraction t s d (fault p) = fault p

-- behind the whole part: a fraction or none, then an exponent or none
unfoldable pub fraction_at : List ℕ → Bool → Digits → ℕ → Got Number
unfolding exponent_at
fraction_at t s d i = elim (eqb (byte_at t i) 46) [ true ↦ after_fraction t s d (some_digits t d (i + 1)) | false ↦ exponent_at t (plain_number s d 0 false) i ]

abbrev pub after_whole : List ℕ → Bool → Got Digits → Got Number
after_whole t s (got d n) = fraction_at t s d n
after_whole t s (fault p) = fault p

-- the longest number at i, or the first byte that has no legal continuation
unfoldable pub number_at : List ℕ → ℕ → Got Number
unfolding fraction_at
number_at t i = elim (eqb (byte_at t i) 45) [ true ↦ after_whole t true (whole_at t (i + 1)) | false ↦ after_whole t false (whole_at t i) ]

-- the two whole numbers as floats, divided once
abbrev pub quotient : ℕ → ℕ → Float
quotient digits power = div binary64 (of_int binary64 (pos digits)) (of_int binary64 (pos power))

-- the sign is put on afterwards
abbrev pub signed : Bool → Float → Float
signed negative x = cond negative (neg x) x

-- the digits as a whole number divided once by the power of ten, then the sign
unfoldable pub rate : Bool → ℕ → ℕ → Float
rate negative digits places = signed negative (quotient digits (10 ^ places))

-- a whole number below 2^64 without sign, fraction or exponent
unfoldable pub count? : Number → Bool
count? n = not n.negative && not n.fraction && not n.exponent && ltb n.digits.value (2 ^ 64)

-- no exponent, at most 15 digits in all
unfoldable pub decimal? : Number → Bool
decimal? n = not n.exponent && leb n.digits.count 15

-- a count, else a rate, of which minus zero is zero; none for a number outside these forms (73)
unfoldable pub number_scalar : Number → Option Scalar
number_scalar n =
    elim (count? n) [
      | true ↦ some (Count n.digits.value)
      | false ↦ elim (decimal? n) [
        | true ↦ some (row_rate (to_bits binary64 (rate n.negative n.digits.value n.places)))
        | false ↦ none
      ]
    ]

-- the scalar of the number at i and the place after it
abbrev pub as_scalar : Got Number → Got (Option Scalar)
as_scalar (got m n) = got (number_scalar m) n
as_scalar (fault p) = fault p
