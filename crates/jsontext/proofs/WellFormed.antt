-- The bytes of a code point that is no surrogate are a well-formed sequence by the table of the Unicode standard. Assumes nothing.
use mathlib.Core.Path.{◌≡◌, refl, sym, ◌∙◌}
use mathlib.Core.Bool.{Bool, true, false, cond}
use mathlib.Core.List.{List, [], ◌∷◌}
use Prim.Native.Nat.{ℕ, ◌+◌, ◌/◌, ◌%◌, ◌<◌, ◌≤◌}
use native.Mathlib.Omega.{arith}
use borrow.Author.Tests.{lt-ltb, le-ltb, ltb-true, ltb-false, eqb-true}
use lib.Dec.{eqb, ltb}
use lib.ListN.{length}
use Rattle.base.specs.Text.{byte_at}
use Rattle.jsontext.specs.Utf8.{between, up_to, tail, pass_at, sequence_at, utf8}
use Rattle.jsontext.specs.Productions.{surrogate?}
use Rattle.jsontext.specs.Lead.{follows, lowest, highest}
use Rattle.jsontext.proofs.Places.{range_in, range_above, past_range}
use Rattle.jsontext.proofs.LeadRows.{lead_more}

-- ---- what a lead byte asks
module _ (b : ℕ) where
  follows_one : 194 ≤ b → b ≤ 223 → 1 ≡ follows b
  unfolding follows
  follows_one h k = rw (range_in 194 223 b h k)

  follows_two : 224 ≤ b → b ≤ 239 → 2 ≡ follows b
  unfolding follows
  follows_two h k = rw (range_above 194 223 b (omega arith), range_in 224 239 b h k)

  follows_three : 240 ≤ b → b ≤ 244 → 3 ≡ follows b
  unfolding follows
  follows_three h k = rw (range_above 194 223 b (omega arith), range_above 224 239 b (omega arith), range_in 240 244 b h k)

  -- the byte x behind it is within the bounds
  within : (x : ℕ) → 128 ≤ x → x ≤ 191 → (b ≡ 224 → 160 ≤ x) → (b ≡ 240 → 144 ≤ x) → (b ≡ 237 → x ≤ 159) → (b ≡ 244 → x ≤ 143) → true ≡ between (lowest b) (highest b) x
  unfolding lowest highest
  within x h k p q r s = sym (range_in _ _ x (low (eqb b 224) (eqb b 240) refl refl) (high (eqb b 237) (eqb b 244) refl refl))
    where
      low : (y z : Bool) → eqb b 224 ≡ y → eqb b 240 ≡ z → cond y 160 (cond z 144 128) ≤ x
      low true z e f = p (eqb-true b 224 e)
      low false true e f = q (eqb-true b 240 f)
      low false false e f = h

      high : (y z : Bool) → eqb b 237 ≡ y → eqb b 244 ≡ z → x ≤ cond y 159 (cond z 143 191)
      high true z e f = r (eqb-true b 237 e)
      high false true e f = s (eqb-true b 244 f)
      high false false e f = k

-- ---- bytes behind the second
pass_tail : (ps : List (ℕ → Bool)) (t : List ℕ) (i : ℕ) → 128 ≤ byte_at t i → byte_at t i ≤ 191 → pass_at (tail ∷ ps) t i ≡ pass_at ps t (i + 1)
unfolding pass_at
pass_tail ps t i h k = rw (pass_at, range_in 128 191 (byte_at t i) h k)

-- of those that begin with ED the others are surrogates
below : (c : ℕ) → surrogate? c ≡ false → 224 + c / 4096 ≡ 237 → 128 + c / 64 % 64 ≤ 159
below c s e = go (ltb c 55296) refl
  where
    go : (b : Bool) → ltb c 55296 ≡ b → 128 + c / 64 % 64 ≤ 159
    go true f = let k = ltb-true c 55296 f in omega arith
    go false f = let k = past_range 55296 57343 c s (ltb-false c 55296 f) in absurd (omega arith)

module _ (c : ℕ) (h : 128 ≤ c) where
  two : c < 2048 → sequence_at (utf8 c) 0 ≡ up_to (length (utf8 c))
  unfolding utf8 pass_at
  two k =
      let a = 192 + c / 64 in
      let x = 128 + c % 64 in
      rw (le-ltb c 128 h, lt-ltb c 2048 k)
      (sym (lead_more (a ∷ x ∷ []) 0 a 1 (lowest a) (highest a) refl (omega arith) (follows_one a (omega arith) (omega arith)) refl refl x true (λ z. omega arith) refl
      (within a x (omega arith) (omega arith) (λ e. omega arith) (λ e. omega arith) (λ e. omega arith) (λ e. omega arith)) refl))

  three : 2048 ≤ c → c < 65536 → surrogate? c ≡ false → sequence_at (utf8 c) 0 ≡ up_to (length (utf8 c))
  unfolding utf8 pass_at
  three g k s =
      let a = 224 + c / 4096 in
      let x = 128 + c / 64 % 64 in
      let z = 128 + c % 64 in
      let t : List ℕ = a ∷ x ∷ z ∷ [] in
      rw (le-ltb c 128 h, le-ltb c 2048 g, lt-ltb c 65536 k)
      (sym (lead_more t 0 a 2 (lowest a) (highest a) refl (omega arith) (follows_two a (omega arith) (omega arith)) refl refl x true (λ e. omega arith) refl
      (within a x (omega arith) (omega arith) (λ e. omega arith) (λ e. omega arith) (λ e. below c s e) (λ e. omega arith)) refl)
      ∙ pass_tail [] t 2 (omega arith) (omega arith))

  four : 65536 ≤ c → c < 1114112 → sequence_at (utf8 c) 0 ≡ up_to (length (utf8 c))
  unfolding utf8 pass_at
  four g k =
      let a = 240 + c / 262144 % 8 in
      let x = 128 + c / 4096 % 64 in
      let y = 128 + c / 64 % 64 in
      let z = 128 + c % 64 in
      let t : List ℕ = a ∷ x ∷ y ∷ z ∷ [] in
      rw (le-ltb c 128 h, le-ltb c 2048 (omega arith), le-ltb c 65536 g)
      (sym (lead_more t 0 a 3 (lowest a) (highest a) refl (omega arith) (follows_three a (omega arith) (omega arith)) refl refl x true (λ e. omega arith) refl
      (within a x (omega arith) (omega arith) (λ e. omega arith) (λ e. omega arith) (λ e. omega arith) (λ e. omega arith)) refl)
      ∙ pass_tail (tail ∷ []) t 2 (omega arith) (omega arith)
      ∙ pass_tail [] t 3 (omega arith) (omega arith))

-- up to U+007F the byte itself; above, a row of the table; U+10FFFF is the last
pub utf8_one : (c : ℕ) → c < 128 → utf8 c ≡ c ∷ []
unfolding utf8
utf8_one c h = rw (lt-ltb c 128 h)

pub utf8_sequence : (c : ℕ) → 128 ≤ c → c < 1114112 → surrogate? c ≡ false → sequence_at (utf8 c) 0 ≡ up_to (length (utf8 c))
utf8_sequence c h k s = go (ltb c 2048) (ltb c 65536) refl refl
  where
    go : (x y : Bool) → ltb c 2048 ≡ x → ltb c 65536 ≡ y → sequence_at (utf8 c) 0 ≡ up_to (length (utf8 c))
    go true y e f = two c h (ltb-true c 2048 e)
    go false true e f = three c h (ltb-false c 2048 e) (ltb-true c 65536 f) s
    go false false e f = four c h (ltb-false c 65536 f) k
