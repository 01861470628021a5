-- Two rates that are no NaNs come to the same in a row exactly when they are equal as floats. Assumes nothing.
use mathlib.Core.Path.{◌≡◌, refl, sym, ap, subst, ◌∙◌}
use mathlib.Core.Bool.{Bool, true, false, ◌||◌, beq, cond}
use mathlib.Core.Logic.{◌⊎◌, inl, inr, ⊎_elim}
use Prim.Native.Nat.{ℕ, zero, suc, ◌+◌, ◌-◌, ◌*◌, ◌/◌, ◌^◌, ◌<◌}
use native.Mathlib.Nat.{zero-mul, zero-div, mul_comm, mul_right_comm, mul-pos, mul-div-mul_right}
use native.Mathlib.Omega.{arith}
use borrow.Author.Tests.{eq-eqb, eqb-true}
use lib.Dec.{eqb}
use lib.IntN.{ℤ}
use lib.Ieee.{Float, nan, inf, fin, binary64, prec, low, hid, top, up, down, size, eq, of_bits, nan_bits, to_bits, is_nan}
use lib.Ieee.Bits.{nan_bits_is, to_bits-of_bits}
use lib.Ieee.Fits.{up_pos, down_pos}
use Rattle.model.specs.Table.{one_zero}
use Rattle.model.proofs.Scalars.{Zero, same_load}
use Rattle.document.proofs.Refusals.{true_and}
use Rattle.document.proofs.Rates.{not_T}

-- a magnitude in units of the smallest value, and a sign and such a magnitude as bits
units : ℕ → ℤ → ℕ
units m e = m * up e * 2 ^ low binary64 / down e

with_units : Bool → ℕ → ℕ
with_units s n = cond s (top binary64) 0 + (size n - prec binary64) * hid binary64 + n / 2 ^ (size n - prec binary64)

bits_are : (s : Bool) (m : ℕ) (e : ℤ) → to_bits binary64 (fin s m e) ≡ with_units s (units m e)
unfolding to_bits with_units units
bits_are s m e = refl

-- equal numbers have as many units
same_units : (m n : ℕ) (e d : ℤ) → m * up e * down d ≡ n * up d * down e → units m e ≡ units n d
unfolding units
same_units m n e d h =
    let l = 2 ^ low binary64 in
    let p = m * up e in
    let q = n * up d in
    let same : p * l * down d ≡ q * l * down e = mul_right_comm p l (down d) ∙ ap (◌* l) h ∙ mul_right_comm q (down e) l in
    sym (mul-div-mul_right (p * l) (down e) (down_pos d)) ∙ (λ i. same i / mul_comm (down e) (down d) i) ∙ mul-div-mul_right (q * l) (down d) (down_pos e)

-- a number that is zero has none, and is one of the zeros by its bits
no_number : (m : ℕ) (e d : ℤ) → m * up e * down d ≡ 0 → m ≡ 0
no_number zero e d h = refl
no_number (suc m) e d h = let p = mul-pos (mul-pos {m = suc m} (omega arith) (up_pos e)) (down_pos d) in absurd (omega arith)

no_units : (e : ℤ) → units 0 e ≡ 0
unfolding units
no_units e = ap (λ n. n * 2 ^ low binary64 / down e) (zero-mul (up e)) ∙ ap (λ n. n / down e) (zero-mul (2 ^ low binary64)) ∙ zero-div (down e)

zero_bits : (s : Bool) (m : ℕ) (e : ℤ) → m ≡ 0 → Zero (to_bits binary64 (fin s m e))
unfolding with_units size
zero_bits s m e h = subst Zero (sym (bits_are s m e ∙ ap (with_units s) (ap (λ n. units n e) h ∙ no_units e))) (go s)
  where
    go : (t : Bool) → Zero (with_units t 0)
    go true = inr refl
    go false = inl refl

-- the bits of equal floats
abbrev SameBits : Float → Float → Type 0
SameBits x y = (to_bits binary64 x ≡ to_bits binary64 y) ⊎ (Zero (to_bits binary64 x) × Zero (to_bits binary64 y))

same_sign : (s t : Bool) → beq s t ≡ true → s ≡ t
same_sign true true h = refl
same_sign true false h = sym h
same_sign false true h = h
same_sign false false h = refl

numbers : (s t : Bool) (m n : ℕ) (e d : ℤ) → m * up e * down d ≡ n * up d * down e → (z : Bool) → eqb (m * up e * down d) 0 ≡ z → (u : Bool) → beq s t ≡ u → (u || z) ≡ true → SameBits (fin s m e) (fin t n d)
numbers s t m n e d same z ez true eu h = inl (bits_are s m e ∙ (λ i. with_units (same_sign s t eu i) (same_units m n e d same i)) ∙ sym (bits_are t n d))
numbers s t m n e d same true ez false eu h =
    let none = eqb-true (m * up e * down d) 0 ez in
    inr (zero_bits s m e (no_number m e d none), zero_bits t n d (no_number n d e (sym same ∙ none)))
numbers s t m n e d same false ez false eu h = let z : ◌≡◌ {A = ℕ} 0 1 = cc in absurd (omega arith)

no : {C : Type 0} → false ≡ true → C
no e = let z : ◌≡◌ {A = ℕ} 0 1 = cc in absurd (omega arith)

same_bits : (x y : Float) → eq x y ≡ true → SameBits x y
unfolding eq
same_bits nan y h = no h
same_bits (inf s) nan h = no h
same_bits (inf s) (inf t) h = inl (ap (λ u. to_bits binary64 (inf u)) (same_sign s t h))
same_bits (inf s) (fin t n d) h = no h
same_bits (fin s m e) nan h = no h
same_bits (fin s m e) (inf t) h = no h
same_bits (fin s m e) (fin t n d) h =
    let (a, b) = true_and (eqb (m * up e * down d) (n * up d * down e)) (beq s t || eqb (m * up e * down d) 0) h in
    numbers s t m n e d (eqb-true _ _ a) (eqb (m * up e * down d) 0) refl (beq s t) refl b

-- a float that is no NaN equals itself
itself : (x : Float) → is_nan x ≡ false → eq x x ≡ true
unfolding is_nan eq
itself nan h = sym h
itself (inf true) h = refl
itself (inf false) h = refl
itself (fin true m e) h = rw (eq-eqb (m * up e * down e) (m * up e * down e) refl)
itself (fin false m e) h = rw (eq-eqb (m * up e * down e) (m * up e * down e) refl)

zeros_equal : (b c : ℕ) → Zero b → Zero c → eq (of_bits binary64 b) (of_bits binary64 c) ≡ true
unfolding eq of_bits
zeros_equal b c (inl p) (inl q) = rw (p, q)
zeros_equal b c (inl p) (inr q) = rw (p, q)
zeros_equal b c (inr p) (inl q) = rw (p, q)
zeros_equal b c (inr p) (inr q) = rw (p, q)

-- TWO RATES COME TO THE SAME IN A ROW EXACTLY WHEN THEY ARE EQUAL AS FLOATS, where neither is a NaN.
pub equal_floats : (b c : ℕ) → b < 2 ^ 64 → c < 2 ^ 64 → nan_bits binary64 b ≡ false → nan_bits binary64 c ≡ false
    → (eq (of_bits binary64 b) (of_bits binary64 c) ≡ true → one_zero b ≡ one_zero c) × (one_zero b ≡ one_zero c → eq (of_bits binary64 b) (of_bits binary64 c) ≡ true)
equal_floats b c lb lc nb nc = (λ h. (same_load b c).1 (⊎_elim (λ e. inl (sym own ∙ e ∙ other)) (λ (x, y). inr (subst Zero own x, subst Zero other y)) (same_bits (of_bits binary64 b) (of_bits binary64 c) h)), λ h. ⊎_elim equal (λ (x, y). zeros_equal b c x y) ((same_load b c).0 h))
  where
    own : to_bits binary64 (of_bits binary64 b) ≡ b
    own = to_bits-of_bits binary64 b lb (not_T (sym (nan_bits_is binary64 b) ∙ nb))

    other : to_bits binary64 (of_bits binary64 c) ≡ c
    other = to_bits-of_bits binary64 c lc (not_T (sym (nan_bits_is binary64 c) ∙ nc))

    equal : b ≡ c → eq (of_bits binary64 b) (of_bits binary64 c) ≡ true
    equal e = ap (λ x. eq (of_bits binary64 b) (of_bits binary64 x)) (sym e) ∙ itself (of_bits binary64 b) (sym (nan_bits_is binary64 b) ∙ nb)
