-- What the two conversions and the division come to: the fraction of the two whole numbers, rounded once. Assumes nothing.
use mathlib.Core.Path.{◌≡◌, sym, ap, ◌∙◌, subst}
use mathlib.Core.Bool.{Bool, true, false, true≢false}
use Prim.Native.Nat.{ℕ, ◌+◌, ◌*◌, ◌^◌, ◌<◌, ◌≤◌}
use native.Mathlib.Nat.{mul_assoc, mul_comm, mul_left_comm, mul-pos, mul-one, zero-mul, one-le-pow, pow-le-pow_right, pow-suc}
use native.Mathlib.Numerals.{add-one}
use native.Mathlib.Omega.{arith}
use lib.Dec.{T, le→leb}
use lib.IntN.{pos}
use lib.Ieee.{Float, nan, inf, fin, binary64, round, div, of_int, up, down, in_float}
use lib.Ieee.Fits.{down_pos}
use lib.Ieee.Exact.{HasValue}
use lib.Ieee.Back.{round_whole}
use lib.Ieee.Scale.{round_same}
use borrow.Author.Tests.{ne_eqb}
use Rattle.jsontext.specs.Number.{quotient, signed, rate}
use Rattle.jsontext.specs.Rate.{nearest_rate}

-- powers of ten rise, each by a factor of ten
pub power_more : (k : ℕ) → 10 ^ (k + 1) ≡ 10 ^ k * 10
power_more k = rw add-one (pow-suc 10 k)

pub power_below : (k n : ℕ) → k ≤ n → 10 ^ k ≤ 10 ^ n
power_below k n h = pow-le-pow_right {n = 10} (omega arith) {i = k} {j = n} h

-- a whole number up to 2^53 becomes an f64 without loss: what the cast asks, and the value it has
pub whole : (n : ℕ) → n ≤ 2 ^ 53 → T (in_float binary64 (pos n))
unfolding in_float
whole n h = le→leb n (2 ^ 53) h

pub exact : (n : ℕ) → n ≤ 2 ^ 53 → HasValue (of_int binary64 (pos n)) false n 1
unfolding of_int
exact n h = round_whole binary64 false n h

-- of two floats that are whole numbers the quotient is the fraction of the numbers, rounded once
not_zero : (n u p w : ℕ) → 0 < p → 0 < w → n * u * 1 ≡ p * w → n ≡ 0 → ⊥
not_zero n u p w P W e z =
    let k : 0 < p * w = mul-pos P W in
    let q : n * u * 1 ≡ 0 = ap (λ (x : ℕ). x * u * 1) z ∙ ap (λ (x : ℕ). x * 1) (zero-mul u) in
    omega arith

divided : (x y : Float) (d p : ℕ) → 0 < p → HasValue x false d 1 → HasValue y false p 1 → div binary64 x y ≡ round binary64 false d p
unfolding div
divided nan y d p P a b = absurd a
divided (inf s) y d p P a b = absurd a
divided (fin s m e) nan d p P a b = absurd b
divided (fin s m e) (inf t) d p P a b = absurd b
divided (fin true m e) (fin t n g) d p P a b = absurd (true≢false a.0)
divided (fin false m e) (fin true n g) d p P a b = absurd (true≢false b.0)
divided (fin false m e) (fin false n g) d p P a b =
    let z : n ≡ 0 → ⊥ = not_zero n (up g) p (down g) P (down_pos g) b.1 in
    rw (ne_eqb n 0 z)
    (round_same binary64 false (m * up e * down g) (n * up g * down e) d p below P same)
  where
    m_is : m * up e ≡ d * down e
    m_is = sym (mul-one (m * up e)) ∙ a.1

    n_is : n * up g ≡ p * down g
    n_is = sym (mul-one (n * up g)) ∙ b.1

    below : 0 < n * up g * down e
    below = subst (λ (x : ℕ). 0 < x * down e) (sym n_is) (mul-pos (mul-pos P (down_pos g)) (down_pos e))

    same : m * up e * down g * p ≡ d * (n * up g * down e)
    same =
        ap (λ (x : ℕ). x * down g * p) m_is
        ∙ (simp (mul_assoc, mul_comm, mul_left_comm))
        ∙ sym (ap (λ (x : ℕ). d * (x * down e)) n_is)

pub quotient_nearest : (d p : ℕ) → d ≤ 2 ^ 53 → 0 < p → p ≤ 2 ^ 53 → quotient d p ≡ round binary64 false d p
quotient_nearest d p a b c = divided (of_int binary64 (pos d)) (of_int binary64 (pos p)) d p b (exact d a) (exact p c)

-- The rate is the number's own fraction, rounded once to the nearest f64, with the sign put on afterwards.
pub rate_nearest : (negative : Bool) (digits places : ℕ) → digits < 10 ^ 15 → places ≤ 15 → rate negative digits places ≡ nearest_rate negative digits places
unfolding rate nearest_rate
rate_nearest negative digits places d k =
    let few : 10 ^ places ≤ 10 ^ 15 = power_below places 15 k in
    ap (signed negative) (quotient_nearest digits (10 ^ places) (omega arith) (one-le-pow places 10 (omega arith)) (omega arith))
