-- Digits are as long as they are many, so at most 15 of them are below 10^15. Assumes nothing.
use mathlib.Core.Path.{◌≡◌, refl}
use mathlib.Core.Bool.{Bool, true, false, ◌||◌, cond}
use mathlib.Core.List.{List}
use Prim.Native.Nat.{ℕ, zero, suc, ◌+◌, ◌-◌, ◌^◌, ◌<◌, ◌≤◌}
use native.Mathlib.Nat.{le_refl}
use native.Mathlib.Omega.{arith}
use lib.Dec.{eqb}
use lib.ListN.{length}
use Rattle.base.specs.Text.{byte_at, Got, got, fault}
use Rattle.base.proofs.Got.{Reads, reads, none_read, read_as}
use Rattle.classes.specs.Classes.{digit?}
use Rattle.classes.proofs.Ranges.{digit_range}
use Rattle.jsontext.specs.Number.{Digits, Number, digits_of, no_digits, with_digit, digits_from, some_digits, whole_at, sign_end, with_exponent, exponent_at, plain_number, after_fraction, fraction_at, after_whole, number_at}
use Rattle.jsontext.proofs.Rates.{power_more, power_below}

-- digits, no more of them than places before i, whose value is no longer than they are
pub record Sized (d : Digits) (i : ℕ) : Type 0 where
  pub small : d.value < 10 ^ d.count
  pub few : d.count ≤ i

-- digits that follow n others
abbrev SizedFrom : ℕ → Digits → ℕ → Type 0
SizedFrom n d i = Sized d i × (n ≤ d.count)

digit_sized : (d : Digits) (i b : ℕ) → digit? b ≡ true → Sized d i → Sized (with_digit d b) (i + 1)
digit_sized d i b e s =
    let r = digit_range b e in
    let p = power_more d.count in
    record { small = omega (arith, s.small); few = omega (arith, s.few) }

digits_sized : (f : ℕ) (t : List ℕ) (d : Digits) (i : ℕ) → Sized d i → Reads (SizedFrom d.count) (digits_from f t d i)
unfolding digits_from
digits_sized zero t d i s = reads {v = d} {e = i} (s, le_refl d.count)
digits_sized (suc f) t d i s = go (digit? (byte_at t i)) refl (λ e. digits_sized f t (with_digit d (byte_at t i)) (i + 1) (digit_sized d i (byte_at t i) e s))
  where
    go : (a : Bool) → digit? (byte_at t i) ≡ a → (digit? (byte_at t i) ≡ true → Reads (SizedFrom (d.count + 1)) (digits_from f t (with_digit d (byte_at t i)) (i + 1)))
        → Reads (SizedFrom d.count) (elim a [ true ↦ digits_from f t (with_digit d (byte_at t i)) (i + 1) | false ↦ got d i ])
    go true e k = read_as _ _ (λ x n p. (p.0, omega (arith, p.1))) (k e)
    go false e k = reads {v = d} {e = i} (s, le_refl d.count)

some_sized : (t : List ℕ) (d : Digits) (i : ℕ) → Sized d i → Reads (SizedFrom d.count) (some_digits t d i)
unfolding some_digits
some_sized t d i s = go (digit? (byte_at t i))
  where
    go : (a : Bool) → Reads (SizedFrom d.count) (cond a (digits_from (length t - i) t d i) (fault i))
    go true = digits_sized (length t - i) t d i s
    go false = none_read

whole_sized : (t : List ℕ) (i : ℕ) → Reads Sized (whole_at t i)
unfolding whole_at
whole_sized t i = go (eqb (byte_at t i) 48) (digit? (byte_at t (i + 1)))
  where
    go : (a b : Bool) → Reads Sized (cond a (cond b (fault (i + 1)) (got (digits_of 0 1) (i + 1))) (some_digits t no_digits i))
    go true true = none_read
    go true false = reads {v = digits_of 0 1} {e = i + 1} (record { small = omega arith; few = omega arith })
    go false b = read_as _ _ (λ x n p. p.0) (some_sized t no_digits i (record { small = omega arith; few = omega arith }))

-- at most 15 digits that are as long as they are many
pub few_digits : (v n : ℕ) → v < 10 ^ n → n ≤ 15 → v < 10 ^ 15
few_digits v n h l = let p = power_below n 15 l in omega arith

-- a number's digits, of which those behind the point are some
abbrev pub SizedNumber : Number → ℕ → Type 0
SizedNumber m n = (m.digits.value < 10 ^ m.digits.count) × (m.places ≤ m.digits.count)

module _ (t : List ℕ) where
  raised : (m : Number) (i : ℕ) → SizedNumber m i → (g : Got Digits) → Reads SizedNumber (with_exponent m g)
  raised m i h (got d n) = reads h
  raised m i h (fault p) = none_read

  exponent_sized : (m : Number) (i : ℕ) → SizedNumber m i → Reads SizedNumber (exponent_at t m i)
  unfolding exponent_at
  exponent_sized m i h = go (eqb (byte_at t i) 101 || eqb (byte_at t i) 69)
    where
      go : (a : Bool) → Reads {A = Number} SizedNumber (elim a [ true ↦ with_exponent m (some_digits t no_digits (sign_end t (i + 1))) | false ↦ got m i ])
      go true = raised m i h (some_digits t no_digits (sign_end t (i + 1)))
      go false = reads {v = m} {e = i} h

  behind_fraction : (s : Bool) (d : Digits) (g : Got Digits) → Reads (SizedFrom d.count) g → Reads SizedNumber (after_fraction t s d g)
  behind_fraction s d (got e n) (reads h) = exponent_sized (plain_number s e (e.count - d.count) true) n (h.0.small, omega arith)
  behind_fraction s d (fault p) h = none_read

  fraction_sized : (s : Bool) (d : Digits) (i : ℕ) → Sized d i → Reads SizedNumber (fraction_at t s d i)
  unfolding fraction_at
  fraction_sized s d i h = go (eqb (byte_at t i) 46)
    where
      go : (a : Bool) → Reads {A = Number} SizedNumber (elim a [ true ↦ after_fraction t s d (some_digits t d (i + 1)) | false ↦ exponent_at t (plain_number s d 0 false) i ])
      go true = behind_fraction s d (some_digits t d (i + 1)) (some_sized t d (i + 1) (record { small = h.small; few = omega (arith, h.few) }))
      go false = exponent_sized (plain_number s d 0 false) i (h.small, omega arith)

  behind_whole : (s : Bool) (g : Got Digits) → Reads Sized g → Reads SizedNumber (after_whole t s g)
  behind_whole s (got d n) (reads h) = fraction_sized s d n h
  behind_whole s (fault p) h = none_read

  pub number_sized : (i : ℕ) → Reads SizedNumber (number_at t i)
  unfolding number_at
  number_sized i = go (eqb (byte_at t i) 45)
    where
      go : (a : Bool) → Reads {A = Number} SizedNumber (elim a [ true ↦ after_whole t true (whole_at t (i + 1)) | false ↦ after_whole t false (whole_at t i) ])
      go true = behind_whole true (whole_at t (i + 1)) (whole_sized t (i + 1))
      go false = behind_whole false (whole_at t i) (whole_sized t i)
