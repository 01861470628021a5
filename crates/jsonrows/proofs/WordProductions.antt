-- A word that is read stands there byte by byte, and one that stands there is read. Assumes nothing.
use mathlib.Core.Path.{◌≡◌, refl, sym, ap, subst, ◌∙◌}
use mathlib.Core.Bool.{Bool, true, false, cond}
use mathlib.Core.List.{List, [], ◌∷◌}
use Prim.Native.Nat.{ℕ, suc, ◌+◌}
use native.Mathlib.Omega.{arith}
use borrow.Author.Tests.{eq-eqb, eqb-true}
use lib.Dec.{eqb}
use lib.ListN.{length, get_or}
use Rattle.base.specs.Text.{byte_at, got, fault, leading, word_bytes, word_at}
use Rattle.base.proofs.Got.{Reads, reads, none_read}
use Rattle.jsonrows.specs.Productions.{WordAt, word_end, word_byte}

module _ (t : List ℕ) where
  -- the tests of the word's bytes from place i on
  abbrev From : ℕ → List ℕ → (ℕ → Bool) → Type 0
  From i w p = (k : ℕ) → p k ≡ eqb (byte_at t (i + k)) (get_or w k 0)

  module _ (i b : ℕ) (w : List ℕ) (p : ℕ → Bool) (h : From i (b ∷ w) p) where
    first : p 0 ≡ eqb (byte_at t i) b
    first = let e : i + 0 ≡ i = omega arith in h 0 ∙ ap (λ (n : ℕ). eqb (byte_at t n) b) e

    next : From (i + 1) w (λ k. p (suc k))
    next k = let e : i + suc k ≡ i + 1 + k = omega arith in h (suc k) ∙ ap (λ (n : ℕ). eqb (byte_at t n) (get_or w k 0)) e

  led_word : (w : List ℕ) (i : ℕ) (p : ℕ → Bool) → From i w p → leading (length w) p ≡ length w → WordAt t i w (i + length w)
  unfolding leading
  led_word [] i p h e = let q : i ≡ i + 0 = omega arith in subst (WordAt t i []) q word_end
  led_word (b ∷ w) i p h e = go (p 0) refl (λ q. led_word w (i + 1) (λ k. p (suc k)) (next i b w p h) q) e
    where
      go : (c : Bool) → p 0 ≡ c → (leading (length w) (λ k. p (suc k)) ≡ length w → WordAt t (i + 1) w (i + 1 + length w)) → (elim c [ true ↦ suc (leading (length w) (λ k. p (suc k))) | false ↦ 0 ]) ≡ suc (length w) → WordAt t i (b ∷ w) (i + suc (length w))
      go true c r f =
          let z : i + 1 + length w ≡ i + suc (length w) = omega arith in
          word_byte (eqb-true _ _ (sym (first i b w p h) ∙ c)) (subst (WordAt t (i + 1) w) z (r (omega arith)))
      go false c r f = absurd (omega arith)

  word_led : {i n : ℕ} {w : List ℕ} → WordAt t i w n → (p : ℕ → Bool) → From i w p → (leading (length w) p ≡ length w) × (n ≡ i + length w)
  unfolding leading
  word_led word_end p h = (refl, omega arith)
  word_led {i = i} (word_byte {b = b} {w = w} e r) p h =
      let q : p 0 ≡ true = first i b w p h ∙ eq-eqb _ _ e in
      let k = word_led r (λ k. p (suc k)) (next i b w p h) in
      (rw (leading, q) (ap suc k.0), omega arith)

  module _ {A : Type 0} (v : A) (w : List ℕ) (i : ℕ) where
    -- A WORD THAT IS READ STANDS THERE,
    pub word_read : Reads (λ u n. (u ≡ v) × WordAt t i w n) (word_at v w t i)
    unfolding word_at word_bytes
    word_read = go (eqb (word_bytes w t i) (length w)) refl
      where
        go : (c : Bool) → eqb (word_bytes w t i) (length w) ≡ c → Reads (λ u n. (u ≡ v) × WordAt t i w n) (cond c (got v (i + word_bytes w t i)) (fault (i + word_bytes w t i)))
        go true e =
            let q : word_bytes w t i ≡ length w = eqb-true _ _ e in
            reads (refl, subst (λ k. WordAt t i w (i + k)) (sym q) (led_word w i (λ k. eqb (byte_at t (i + k)) (get_or w k 0)) (λ k. refl) q))
        go false e = none_read

    -- AND ONE THAT STANDS THERE IS READ.
    pub read_word : {n : ℕ} → WordAt t i w n → word_at v w t i ≡ got v n
    unfolding word_at word_bytes
    read_word {n} h =
        let k = word_led h (λ k. eqb (byte_at t (i + k)) (get_or w k 0)) (λ k. refl) in
        let q : word_bytes w t i ≡ length w = k.0 in
        rw (eq-eqb _ _ q, q) (ap (got v) (sym k.1))
