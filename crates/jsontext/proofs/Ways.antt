-- Each way through the definitions of a string's pieces. Assumes nothing.
use mathlib.Core.Path.{◌≡◌, refl, sym, ap, ◌∙◌}
use mathlib.Core.Bool.{true, false, not, ◌&&◌}
use mathlib.Core.List.{List}
use Prim.Native.Nat.{ℕ, zero, suc, ◌+◌, ◌<◌, ◌≤◌}
use native.Mathlib.Omega.{arith}
use lib.Dec.{eqb, ltb, leb}
use lib.ListN.{length}
use borrow.Author.Tests.{eq-eqb, ne_eqb, lt-ltb, le-ltb, ltb-false, ltb-true, leb-true, eqb-false, not-true}
use Rattle.classes.specs.Classes.{control?}
use Rattle.document.proofs.Refusals.{true_and}
use Rattle.base.specs.Text.{byte_at, got, fault}
use Rattle.base.proofs.Bytes.{inside, class_inside}
use Rattle.jsontext.specs.Utf8.{sequence_at}
use Rattle.jsontext.specs.Strings.{closed, raw, code, bad, simple, plain?, hex_from, dee?, low?, high?, as_pair, as_raw, first_unit, second_unit, pair_at, unicode_at, escape_at, piece_at}

-- a byte that stands for an escape is not 0
simple_above : (b : ℕ) → (simple b ≡ 0 → ⊥) → 0 < b
unfolding simple
simple_above zero g = absurd (g refl)
simple_above (suc b) g = omega arith

pub dee_inside : (t : List ℕ) (i : ℕ) → dee? (byte_at t i) ≡ true → i < length t
unfolding dee?
dee_inside t i e = class_inside dee? refl t i e

module _ (t : List ℕ) (i : ℕ) where
  -- the digits of a first and of a second \u
  pub first_other : dee? (byte_at t i) ≡ false → hex_from 4 t 0 i ≡ first_unit t i
  unfolding first_unit
  first_other e = rw (first_unit, e)

  pub first_low : dee? (byte_at t i) ≡ true → low? (byte_at t (i + 1)) ≡ true → fault (i + 1) ≡ first_unit t i
  unfolding first_unit
  first_low e f = rw (first_unit, e, f)

  pub first_high : dee? (byte_at t i) ≡ true → low? (byte_at t (i + 1)) ≡ false → hex_from 4 t 0 i ≡ first_unit t i
  unfolding first_unit
  first_high e f = rw (first_unit, e, f)

  pub second_other : dee? (byte_at t i) ≡ false → fault i ≡ second_unit t i
  unfolding second_unit
  second_other e = rw (second_unit, e)

  pub second_high : dee? (byte_at t i) ≡ true → low? (byte_at t (i + 1)) ≡ false → fault (i + 1) ≡ second_unit t i
  unfolding second_unit
  second_high e f = rw (second_unit, e, f)

  pub second_low : dee? (byte_at t i) ≡ true → low? (byte_at t (i + 1)) ≡ true → hex_from 4 t 0 i ≡ second_unit t i
  unfolding second_unit
  second_low e f = rw (second_unit, e, f)

  -- what follows a high surrogate
  pub pair_none : (b v : ℕ) → b ≡ byte_at t i → (b ≡ 92 → ⊥) → bad i ≡ pair_at t v i
  unfolding pair_at
  pair_none b v e f = rw (pair_at, ← e, ne_eqb b 92 f)

  pub pair_other : (b d v : ℕ) → b ≡ byte_at t i → b ≡ 92 → d ≡ byte_at t (i + 1) → (d ≡ 117 → ⊥) → bad (i + 1) ≡ pair_at t v i
  unfolding pair_at
  pair_other b d v e f g h = rw (pair_at, ← e, eq-eqb b 92 f, ← g, ne_eqb d 117 h)

  pub pair_is : (b d v : ℕ) → b ≡ byte_at t i → b ≡ 92 → d ≡ byte_at t (i + 1) → d ≡ 117 → as_pair v (second_unit t (i + 2)) ≡ pair_at t v i
  unfolding pair_at
  pair_is b d v e f g h = rw (pair_at, ← e, eq-eqb b 92 f, ← g, eq-eqb d 117 h)

  -- what follows \u
  pub unicode_bad : (p : ℕ) → fault p ≡ first_unit t i → bad p ≡ unicode_at t i
  unfolding unicode_at
  unicode_bad p e = rw (unicode_at, ← e)

  pub unicode_pair : (v n : ℕ) → got v n ≡ first_unit t i → high? v ≡ true → pair_at t v n ≡ unicode_at t i
  unfolding unicode_at
  unicode_pair v n e f = rw (unicode_at, ← e, f)

  pub unicode_one : (v n : ℕ) → got v n ≡ first_unit t i → high? v ≡ false → code v n ≡ unicode_at t i
  unfolding unicode_at
  unicode_one v n e f = rw (unicode_at, ← e, f)

  -- what follows a backslash
  pub escape_unicode : (b : ℕ) → b ≡ byte_at t i → b ≡ 117 → unicode_at t (i + 1) ≡ escape_at t i
  unfolding escape_at
  escape_unicode b e f = rw (escape_at, ← e, eq-eqb b 117 f)

  pub escape_bad : (b c : ℕ) → b ≡ byte_at t i → (b ≡ 117 → ⊥) → c ≡ simple b → c ≡ 0 → bad i ≡ escape_at t i
  unfolding escape_at
  escape_bad b c e f g h = rw (escape_at, ne_eqb (byte_at t i) 117 (λ z. f (e ∙ z)), eq-eqb (simple (byte_at t i)) 0 (ap simple (sym e) ∙ sym g ∙ h))

  pub escape_simple : (b c : ℕ) → b ≡ byte_at t i → (b ≡ 117 → ⊥) → c ≡ simple b → (c ≡ 0 → ⊥) → code c (i + 1) ≡ escape_at t i
  unfolding escape_at
  escape_simple b c e f g h =
      rw (escape_at, ne_eqb (byte_at t i) 117 (λ z. f (e ∙ z)), ne_eqb (simple (byte_at t i)) 0 (λ z. h (g ∙ ap simple e ∙ z)))
      (ap (λ (x : ℕ). code x (i + 1)) (g ∙ ap simple e))

  -- the pieces
  pub piece_closed : (b : ℕ) → b ≡ byte_at t i → b ≡ 34 → closed ≡ piece_at t i
  unfolding piece_at
  piece_closed b e f = rw (piece_at, eq-eqb (byte_at t i) 34 (sym e ∙ f))

  pub piece_escape : (b : ℕ) → b ≡ byte_at t i → (b ≡ 34 → ⊥) → b ≡ 92 → escape_at t (i + 1) ≡ piece_at t i
  unfolding piece_at
  piece_escape b e f g = rw (piece_at, ne_eqb (byte_at t i) 34 (λ z. f (e ∙ z)), eq-eqb (byte_at t i) 92 (sym e ∙ g))

  module _ (b : ℕ) (e : b ≡ byte_at t i) (f : b ≡ 34 → ⊥) (g : b ≡ 92 → ⊥) where
    pub piece_control : control? b ≡ true → bad i ≡ piece_at t i
    unfolding piece_at
    piece_control h = rw (piece_at, ne_eqb (byte_at t i) 34 (λ z. f (e ∙ z)), ne_eqb (byte_at t i) 92 (λ z. g (e ∙ z)), ap control? (sym e) ∙ h)

    pub piece_plain : control? b ≡ false → b < 128 → raw (i + 1) ≡ piece_at t i
    unfolding piece_at
    piece_plain h k =
        rw (piece_at, ne_eqb (byte_at t i) 34 (λ z. f (e ∙ z)), ne_eqb (byte_at t i) 92 (λ z. g (e ∙ z)), ap control? (sym e) ∙ h, lt-ltb (byte_at t i) 128 (omega arith))

    pub piece_sequence : control? b ≡ false → 128 ≤ b → as_raw (sequence_at t i) ≡ piece_at t i
    unfolding piece_at
    piece_sequence h k =
        rw (piece_at, ne_eqb (byte_at t i) 34 (λ z. f (e ∙ z)), ne_eqb (byte_at t i) 92 (λ z. g (e ∙ z)), ap control? (sym e) ∙ h, le-ltb (byte_at t i) 128 (omega arith))

  pub simple_inside : (b c : ℕ) → b ≡ byte_at t i → c ≡ simple b → (c ≡ 0 → ⊥) → i < length t
  simple_inside b c e g h = let k : 0 < b = simple_above b (λ z. h (g ∙ z)) in inside t i (omega arith)

  pub plain_inside : (b : ℕ) → b ≡ byte_at t i → control? b ≡ false → i < length t
  unfolding control?
  plain_inside b e f = let k = ltb-false b 32 f in inside t i (omega arith)

  -- a byte that stands for itself
  pub plain_piece : plain? (byte_at t i) ≡ true → piece_at t i ≡ raw (i + 1)
  unfolding plain? control?
  plain_piece e =
      let (x, d) = true_and (not (eqb (byte_at t i) 34) && not (eqb (byte_at t i) 92) && leb 32 (byte_at t i)) (ltb (byte_at t i) 128) e in
      let (y, c) = true_and (not (eqb (byte_at t i) 34) && not (eqb (byte_at t i) 92)) (leb 32 (byte_at t i)) x in
      let (a, b) = true_and (not (eqb (byte_at t i) 34)) (not (eqb (byte_at t i) 92)) y in
      sym (piece_plain (byte_at t i) refl (eqb-false _ _ (not-true _ a)) (eqb-false _ _ (not-true _ b)) (le-ltb (byte_at t i) 32 (leb-true _ _ c)) (ltb-true _ _ d))
