-- What the number scanner's answers stand for. Assumes nothing.
use Rattle.std.specs.Prelude.{◌≡◌, true, false, cond, List, ℕ, ◌+◌, ◌-◌, ◌*◌, ◌^◌, ◌<◌, ◌≤◌, T, ltb, length, Some, None, unwrap_or, Result, Ok, Err}
use Rattle.std.proofs.Math.Option.{Option, none, some}
use Rattle.base.specs.Text.{byte_at, Got, got, fault}
use Rattle.base.specs.declared.text.Fault.{Fault}
use Rattle.classes.specs.Classes.{digit?}
use Rattle.document.specs.declared.scalar.Scalar.{Scalar}
use Rattle.document.specs.declared.scalar.Scalar.TheVariants.{Count}
use Rattle.document.specs.Scalars.{row_rate}
use Rattle.jsontext.specs.Number.{Digits, digits_of, digits_from, fraction_at, number_at}
use Rattle.jsontext.specs.declared.digits.ShortRun.{ShortRun}
use Rattle.jsontext.specs.declared.number.DigitRun.{DigitRun}
use Rattle.jsontext.specs.declared.number.NumberRead.{NumberRead}
use Rattle.jsontext.specs.declared.number.NumberRead.TheVariants.{Counted, Rated, Outside}

-- digits as they are carried: a value of 2^64 or more is not
abbrev pub carried : Digits → DigitRun
carried d = record { value = cond (ltb d.value (2 ^ 64)) (Some d.value) None; count = d.count }

-- A value of n digits, whatever bytes were taken for digits: each counts for at most 15.
abbrev pub Short : ℕ → ℕ → Type 0
Short v n = 3 * v + 5 ≤ 5 * 10 ^ n

-- digits as they are carried, of a value no longer than they are; 2^64 - 1 stands for one that is not carried
pub record ShortRead (r : DigitRun) : Type 0 where
  pub short : Short (unwrap_or r.value (2 ^ 64 - 1)) r.count

-- digits as they are carried, whatever they were taken for: no more of them than places before i, and their value no longer than they are
pub record Bounded (r : DigitRun) (i : ℕ) : Type 0 where
  pub short : ShortRead r
  pub few : r.count ≤ i

-- what the answers say of the digits, whatever table of byte classes is lent: they are at least so many, and bounded
abbrev pub BoundedFrom : ℕ → Result (DigitRun × ℕ) Fault → Type 0
BoundedFrom n (Ok r) = Bounded r.0 r.1 × (n ≤ r.0.count)
BoundedFrom n (Err f) = T true

-- digits at a place as they are answered
abbrev pub carried_at : Got Digits → Result (DigitRun × ℕ) Fault
carried_at (got d n) = Ok (carried d, n)
carried_at (fault p) = Err (record { 0 = p })

-- What was taken for digits after others, which come to `before`, from place `at` up to place i, comes to v.
pub record Within (before at last v i : ℕ) : Type 0 where
  pub forward : at ≤ i
  pub inside : i ≤ last
  pub short : (n : ℕ) → Short before n → Short v (n + (i - at))

-- It is digits, so the digits from `at` on are they and those from i on.
pub record Summed (t : List ℕ) (before at v i : ℕ) : Type 0 where
  pub first : at < i → digit? (byte_at t at) ≡ true
  pub same : (n : ℕ) → digits_from (length t - i) t (digits_of v (n + (i - at))) i ≡ digits_from (length t - at) t (digits_of before n) at

-- Digits were read from place `at` up to the first byte that is none, or up to place `last`.
pub record FewRead (t : List ℕ) (before at last : ℕ) (r : ShortRun) : Type 0 where
  pub summed : Summed t before at r.value r.end
  pub stops : r.end < last → digit? (byte_at t r.end) ≡ false

-- What was taken for the digits of a whole part at place `at`: at most 18, before the last bytes of the text.
pub record ShortWhole (t : List ℕ) (at : ℕ) (r : ShortRun) : Type 0 where
  pub some : at < r.end
  pub early : r.end < at + 19
  pub inside : at + 19 ≤ length t
  pub short : Short r.value (r.end - at)

-- The number at a place has no sign, and these digits are its whole part.
abbrev pub Begins : List ℕ → ℕ → ShortRun → Type 0
Begins t at r = number_at t at ≡ fraction_at t false (digits_of r.value (r.end - at)) r.end

-- a number's scalar, or none where it is outside the forms that become one
abbrev pub scalar_read : NumberRead → Option Scalar
scalar_read (Counted v) = some (Count v)
scalar_read (Rated bits) = some (row_rate bits)
scalar_read Outside = none

abbrev pub number_of : Result (NumberRead × ℕ) Fault → Got (Option Scalar)
number_of (Ok r) = got (scalar_read r.0) r.1
number_of (Err f) = fault f.0
