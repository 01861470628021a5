-- Decimal and hexadecimal numbers, digit by digit: what the loops know at their heads. Assumes nothing.
use mathlib.Core.Path.{◌≡◌, refl, sym, ◌∙◌}
use mathlib.Core.Bool.{true, false}
use mathlib.Core.List.{List}
use Prim.Native.Nat.{ℕ, suc, ◌+◌, ◌-◌, ◌*◌, ◌^◌, ◌<◌, ◌≤◌}
use native.Mathlib.Nat.{pow-le-pow_right, pow-suc}
use native.Mathlib.Numerals.{add-one}
use native.Mathlib.Omega.{arith}
use borrow.Author.Tests.{lt-ltb, le-ltb}
use lib.ListN.{length}
use Rattle.names.specs.Names.{digit?}
use Rattle.term.specs.Scan.{byte_at, got, fault, digit_value, digits_from, hex_digit?, hex_value, hex_from}

-- one digit
module _ (limit : ℕ) (t : List ℕ) (v i n : ℕ) where
  no_digit : digit? (byte_at t i) ≡ false → digits_from (suc n) limit t v i ≡ got v i
  unfolding digits_from
  no_digit e = rw (digits_from, e)

  past_limit : digit? (byte_at t i) ≡ true → limit ≤ v * 10 + digit_value (byte_at t i) → digits_from (suc n) limit t v i ≡ fault i
  unfolding digits_from
  past_limit e l = rw (digits_from, e, le-ltb _ _ l)

  next_digit : digit? (byte_at t i) ≡ true → v * 10 + digit_value (byte_at t i) < limit → digits_from (suc n) limit t v i ≡ digits_from n limit t (v * 10 + digit_value (byte_at t i)) (suc i)
  unfolding digits_from
  next_digit e l = rw (digits_from, e, lt-ltb _ _ l)

-- the digits from place `at` on, after the number `first`, come to what they come to from place i on, after v
pub record Digits (limit : ℕ) (t : List ℕ) (first at v i : ℕ) : Type 0 where
  pub same : digits_from (length t - i) limit t v i ≡ digits_from (length t - at) limit t first at

module _ (limit : ℕ) (t : List ℕ) (first at : ℕ) where
  pub digits_none : Digits limit t first at first at
  digits_none = record { same = refl }

  module _ (v i : ℕ) (h : Digits limit t first at v i) where
    pub digits_end : length t ≤ i → got v i ≡ digits_from (length t - at) limit t first at
    unfolding digits_from
    digits_end l = let z : length t - i ≡ 0 = omega arith in rw z at h.same

    module _ (inside : i < length t) where
      at_digit : digits_from (suc (length t - (i + 1))) limit t v i ≡ digits_from (length t - at) limit t first at
      at_digit = let e : length t - i ≡ suc (length t - (i + 1)) = omega arith in rw e at h.same

      pub digits_stop : digit? (byte_at t i) ≡ false → got v i ≡ digits_from (length t - at) limit t first at
      digits_stop e = sym (no_digit limit t v i _ e) ∙ at_digit

      module _ (d : ℕ) (is : digit? (byte_at t i) ≡ true) (value : d ≡ digit_value (byte_at t i)) where
        pub digits_past : limit ≤ v * 10 + d → fault i ≡ digits_from (length t - at) limit t first at
        digits_past l = sym (past_limit limit t v i _ is (rw value at l)) ∙ at_digit

        pub digits_more : v * 10 + d < limit → Digits limit t first at (v * 10 + d) (i + 1)
        digits_more l = record { same = rw (value, add-one i) (sym (next_digit limit t v i _ is (rw value at l)) ∙ (rw (add-one i) at at_digit)) }

-- one hex digit
module _ (t : List ℕ) (v i n : ℕ) where
  no_hex : hex_digit? (byte_at t i) ≡ false → hex_from (suc n) t v i ≡ fault i
  unfolding hex_from
  no_hex e = rw (hex_from, e)

  next_hex : hex_digit? (byte_at t i) ≡ true → hex_from (suc n) t v i ≡ hex_from n t (v * 16 + hex_value (byte_at t i)) (suc i)
  unfolding hex_from
  next_hex e = rw (hex_from, e)

-- n hex digits were read from place `at` on, and v came of them
pub record Hex (t : List ℕ) (at v n i : ℕ) : Type 0 where
  pub few : n ≤ 16
  pub small : v < 16 ^ n
  pub same : hex_from (16 - n) t v i ≡ hex_from 16 t 0 at

module _ (t : List ℕ) (at : ℕ) where
  pub hex_none : Hex t at 0 0 at
  hex_none = record { few = omega arith; small = omega arith; same = refl }

  module _ (v n i : ℕ) (h : Hex t at v n i) where
    pub hex_end : 16 ≤ n → got v i ≡ hex_from 16 t 0 at
    unfolding hex_from
    hex_end l = let z : 16 - n ≡ 0 = omega (arith, h.few) in rw z at h.same

    module _ (some : n < 16) where
      at_hex : hex_from (suc (16 - (n + 1))) t v i ≡ hex_from 16 t 0 at
      at_hex = let e : 16 - n ≡ suc (16 - (n + 1)) = omega arith in rw e at h.same

      -- room for one more
      pub hex_room : v < 2 ^ 60
      hex_room = let k : 16 ^ n ≤ 16 ^ 15 = pow-le-pow_right {n = 16} (omega arith) {i = n} {j = 15} (omega arith) in omega (arith, h.small)

      pub hex_stop : hex_digit? (byte_at t i) ≡ false → fault i ≡ hex_from 16 t 0 at
      hex_stop e = sym (no_hex t v i _ e) ∙ at_hex

      pub hex_more : (d : ℕ) → hex_digit? (byte_at t i) ≡ true → d ≡ hex_value (byte_at t i) → d < 16 → Hex t at (v * 16 + d) (n + 1) (i + 1)
      hex_more d e q l =
          let p : 16 ^ (n + 1) ≡ 16 ^ n * 16 = rw add-one (pow-suc 16 n) in
          record { few = omega arith; small = omega (arith, h.small); same = rw (q, add-one i) (sym (next_hex t v i _ e) ∙ at_hex) }
