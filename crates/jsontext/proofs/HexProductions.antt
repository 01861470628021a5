-- Four hex digits after \u: what is read of the first and of the second of a pair, by the number that the digits are. Assumes nothing.
use mathlib.Core.Path.{◌≡◌, refl, sym, ap, ◌∙◌}
use mathlib.Core.Bool.{Bool, true, false, ◌&&◌, ◌||◌}
use mathlib.Core.List.{List}
use Prim.Native.Nat.{ℕ, suc, ◌+◌, ◌*◌, ◌<◌}
use native.Mathlib.Omega.{arith}
use borrow.Author.Tests.{eqb-true, eqb-false, ltb-true, ltb-false, leb-true, leb-false}
use lib.Dec.{eqb, leb, ltb}
use lib.ListN.{length, get_or}
use Rattle.model.specs.Lists.{tab}
use Rattle.model.proofs.Tab.{tab_at}
use Rattle.classes.specs.Classes.{digit?, either_hex_digit?}
use Rattle.base.specs.Text.{byte_at, got, fault}
use Rattle.jsontext.specs.Utf8.{between}
use Rattle.jsontext.specs.Strings.{hex_value, hex_from, dee?, low?, first_unit, second_unit}
use Rattle.jsontext.specs.Productions.{Hex4, low_surrogate?}
use Rattle.jsontext.proofs.Places.{stands, both, either, in_range, range_in, range_below, range_above}

-- A HEX DIGIT: its value, and how its byte shows a D, and a C or more; computed over every byte
module _ (b : ℕ) (hex : either_hex_digit? b ≡ true) where
  byte : b < 256
  unfolding either_hex_digit? digit?
  byte =
      either (between 48 57 b) (between 97 102 b || between 65 70 b) (λ e. let r = in_range 48 57 b e in omega arith)
      (either (between 97 102 b) (between 65 70 b) (λ e. let r = in_range 97 102 b e in omega arith) (λ e. let r = in_range 65 70 b e in omega arith))
      hex

  by_byte : (f g : ℕ → Bool) → tab 256 (λ x. either_hex_digit? x && f x) ≡ tab 256 (λ x. either_hex_digit? x && g x) → f b ≡ g b
  by_byte f g e =
      let p = tab_at false 256 (λ x. either_hex_digit? x && f x) b byte in
      let q = tab_at false 256 (λ x. either_hex_digit? x && g x) b byte in
      rw hex at (sym p ∙ ap (λ (l : List Bool). get_or l b false) e ∙ q)

  small : hex_value b < 16
  unfolding either_hex_digit? digit? hex_value
  small = ltb-true (hex_value b) 16 (by_byte (λ x. ltb (hex_value x) 16) (λ x. true) refl)

  dee_is : dee? b ≡ eqb (hex_value b) 13
  unfolding either_hex_digit? digit? hex_value dee?
  dee_is = by_byte dee? (λ x. eqb (hex_value x) 13) refl

  low_is : low? b ≡ leb 12 (hex_value b)
  unfolding either_hex_digit? digit? hex_value low?
  low_is = by_byte low? (λ x. leb 12 (hex_value x)) refl

-- a number of four digits is DC00 to DFFF where the first is D and the second C or more
low_number : (a b c d : ℕ) → a < 16 → b < 16 → c < 16 → d < 16 → (eqb a 13 && leb 12 b) ≡ low_surrogate? (((a * 16 + b) * 16 + c) * 16 + d)
low_number a b c d la lb lc ld = go (eqb a 13) (leb 12 b) refl refl
  where
    above : (a ≡ 13 → ⊥) → (h : Bool) → ltb a 13 ≡ h → false ≡ low_surrogate? (((a * 16 + b) * 16 + c) * 16 + d)
    above n true e = let k = ltb-true a 13 e in sym (range_below 56320 57343 (((a * 16 + b) * 16 + c) * 16 + d) (omega arith))
    above n false e = let k = ltb-false a 13 e in sym (range_above 56320 57343 (((a * 16 + b) * 16 + c) * 16 + d) (omega arith))

    go : (x y : Bool) → eqb a 13 ≡ x → leb 12 b ≡ y → (x && y) ≡ low_surrogate? (((a * 16 + b) * 16 + c) * 16 + d)
    go true true e f = let k = eqb-true a 13 e in let l = leb-true 12 b f in sym (range_in 56320 57343 (((a * 16 + b) * 16 + c) * 16 + d) (omega arith) (omega arith))
    go true false e f = let k = eqb-true a 13 e in let l = leb-false 12 b f in sym (range_below 56320 57343 (((a * 16 + b) * 16 + c) * 16 + d) (omega arith))
    go false y e f = above (eqb-false a 13 e) (ltb a 13) refl

module _ (t : List ℕ) where
  no_hex : (n v i : ℕ) → either_hex_digit? (byte_at t i) ≡ false → hex_from (suc n) t v i ≡ fault i
  unfolding hex_from
  no_hex n v i e = rw (hex_from, e)

  -- one digit of several, and the place k after it
  module _ (n v i k : ℕ) (next : i + 1 ≡ k) where
    hex_next : either_hex_digit? (byte_at t i) ≡ true → hex_from (suc n) t v i ≡ hex_from n t (v * 16 + hex_value (byte_at t i)) k
    unfolding hex_from
    hex_next e = rw (hex_from, e, next)

    hex_first : {w m : ℕ} → hex_from (suc n) t v i ≡ got w m → (either_hex_digit? (byte_at t i) ≡ true) × (hex_from n t (v * 16 + hex_value (byte_at t i)) k ≡ got w m)
    hex_first {w} {m} e = go (either_hex_digit? (byte_at t i)) refl
      where
        go : (b : Bool) → either_hex_digit? (byte_at t i) ≡ b → (either_hex_digit? (byte_at t i) ≡ true) × (hex_from n t (v * 16 + hex_value (byte_at t i)) k ≡ got w m)
        go true q = (q, sym (hex_next q) ∙ e)
        go false q = let f : hex_from (suc n) t v i ≡ fault i = no_hex n v i q in let z : ◌≡◌ {A = ℕ} 0 1 = cc in absurd (omega arith)

  -- FOUR DIGITS ARE READ AS THEIR NUMBER

  module _ (i : ℕ) where
    -- the number after each digit
    abbrev one : ℕ
    one = 0 * 16 + hex_value (byte_at t i)

    abbrev two : ℕ
    two = one * 16 + hex_value (byte_at t (i + 1))

    abbrev three : ℕ
    three = two * 16 + hex_value (byte_at t (i + 2))

    hex_read : {v n : ℕ} → hex_from 4 t 0 i ≡ got v n → Hex4 t i v × (n ≡ i + 4)
    unfolding hex_from
    hex_read {v} {n} e =
        let (a, f) = hex_first 3 0 i (i + 1) refl e in
        let (b, g) = hex_first 2 one (i + 1) (i + 2) (omega arith) f in
        let (c, h) = hex_first 1 two (i + 2) (i + 3) (omega arith) g in
        let (d, k) = hex_first 0 three (i + 3) (i + 4) (omega arith) h in
        let value : three * 16 + hex_value (byte_at t (i + 3)) ≡ v = cc in
        (record { first = a; second = b; third = c; fourth = d; value = omega arith }, cc)

    read_hex : {v : ℕ} → Hex4 t i v → hex_from 4 t 0 i ≡ got v (i + 4)
    unfolding hex_from
    read_hex {v} h =
        let value : three * 16 + hex_value (byte_at t (i + 3)) ≡ v = omega arith in
        hex_next 3 0 i (i + 1) refl h.first
        ∙ hex_next 2 one (i + 1) (i + 2) (omega arith) h.second
        ∙ hex_next 1 two (i + 2) (i + 3) (omega arith) h.third
        ∙ hex_next 0 three (i + 3) (i + 4) (omega arith) h.fourth
        ∙ ap (λ (x : ℕ). got x (i + 4)) value

    -- a low surrogate shows at its first two digits
    low_shows : {v : ℕ} → Hex4 t i v → (dee? (byte_at t i) && low? (byte_at t (i + 1))) ≡ low_surrogate? v
    low_shows {v} h =
        rw (dee_is (byte_at t i) h.first, low_is (byte_at t (i + 1)) h.second, h.value)
        (low_number (hex_value (byte_at t i)) (hex_value (byte_at t (i + 1))) (hex_value (byte_at t (i + 2))) (hex_value (byte_at t (i + 3))) (small (byte_at t i) h.first) (small (byte_at t (i + 1)) h.second) (small (byte_at t (i + 2)) h.third) (small (byte_at t (i + 3)) h.fourth))

    -- THE FIRST: no low surrogate
    pub first_read : {v n : ℕ} → first_unit t i ≡ got v n → Hex4 t i v × (low_surrogate? v ≡ false) × (n ≡ i + 4)
    unfolding first_unit
    first_read {v} {n} e = go (dee? (byte_at t i) && low? (byte_at t (i + 1))) refl e
      where
        go : (b : Bool) → (dee? (byte_at t i) && low? (byte_at t (i + 1))) ≡ b → elim b [ true ↦ fault (i + 1) | false ↦ hex_from 4 t 0 i ] ≡ got v n → Hex4 t i v × (low_surrogate? v ≡ false) × (n ≡ i + 4)
        go true q e = let z : ◌≡◌ {A = ℕ} 0 1 = cc in absurd (omega arith)
        go false q e = let (h, k) = hex_read e in (h, sym (low_shows h) ∙ q, k)

    pub read_first : {v : ℕ} → Hex4 t i v → low_surrogate? v ≡ false → first_unit t i ≡ got v (i + 4)
    unfolding first_unit
    read_first h e = rw (first_unit, low_shows h ∙ e) (read_hex h)

    -- THE SECOND: a low surrogate
    pub second_read : {v n : ℕ} → second_unit t i ≡ got v n → Hex4 t i v × (low_surrogate? v ≡ true) × (n ≡ i + 4)
    unfolding second_unit
    second_read {v} {n} e = go (dee? (byte_at t i)) (low? (byte_at t (i + 1))) refl refl e
      where
        go : (a b : Bool) → dee? (byte_at t i) ≡ a → low? (byte_at t (i + 1)) ≡ b → elim a [ false ↦ fault i | true ↦ elim b [ false ↦ fault (i + 1) | true ↦ hex_from 4 t 0 i ] ] ≡ got v n
            → Hex4 t i v × (low_surrogate? v ≡ true) × (n ≡ i + 4)
        go false b p q e = let z : ◌≡◌ {A = ℕ} 0 1 = cc in absurd (omega arith)
        go true false p q e = let z : ◌≡◌ {A = ℕ} 0 1 = cc in absurd (omega arith)
        go true true p q e = let (h, k) = hex_read e in (h, sym (low_shows h) ∙ (rw (p, q)), k)

    pub read_second : {v : ℕ} → Hex4 t i v → low_surrogate? v ≡ true → second_unit t i ≡ got v (i + 4)
    unfolding second_unit
    read_second h e = let (p, q) = both (dee? (byte_at t i)) (low? (byte_at t (i + 1))) (low_shows h ∙ e) in rw (second_unit, p, q) (read_hex h)

    -- they stand inside
    pub hex_inside : {v : ℕ} → Hex4 t i v → i + 3 < length t
    unfolding either_hex_digit? digit?
    hex_inside h = stands t (i + 3) either_hex_digit? refl h.fourth
