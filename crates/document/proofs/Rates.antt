-- Rates and their bits: what the tests on bits and floats say, and that all 64 bits come back. Assumes nothing.
use mathlib.Core.Path.{◌≡◌, refl, sym, ap, subst, ◌∙◌}
use mathlib.Core.Bool.{Bool, true, false, not, cond}
use Prim.Native.Nat.{ℕ, ◌%◌, ◌^◌, ◌<◌, ◌≤◌}
use lib.Dec.{T}
use lib.Ieee.{Float, nan, inf, fin, binary64, nan_bits, of_bits, to_bits, is_nan, ne}
use lib.Ieee.Bits.{nan_bits_above, nan_bits_is, to_bits-of_bits}
use lib.Ieee.Compare.{differs_from_itself, nan_differs}
use borrow.Author.Tests.{lt-ltb, le-ltb}
use Rattle.model.specs.Table.{one_zero}
use Rattle.model.proofs.Scalars.{rate_below, one_zero_stands}
use Rattle.document.specs.declared.scalar.Scalar.TheVariants.{Rate, NanRate}
use Rattle.document.specs.Scalars.{rate_of, row_rate, kind_of, payload_of}

-- a NaN's bits, without the sign, are above those of infinity, and no other's are
pub nan_above : (b : ℕ) → 9218868437227405312 < b % 9223372036854775808 → nan_bits binary64 b ≡ true
nan_above b h = nan_bits_above binary64 b ∙ lt-ltb _ _ h

pub not_above : (b : ℕ) → b % 9223372036854775808 ≤ 9218868437227405312 → nan_bits binary64 b ≡ false
not_above b h = nan_bits_above binary64 b ∙ le-ltb _ _ h

pub not_T : {t : Bool} → t ≡ false → T (not t)
not_T e = subst (λ (x : Bool). T (not x)) (sym e) tt

-- a float that equals itself is no NaN
pub equals_itself : (x : Float) → ne x x ≡ false → T (not (is_nan x))
unfolding is_nan
equals_itself nan e = let z : true ≡ false = sym nan_differs ∙ e in subst T z tt
equals_itself (inf s) e = tt
equals_itself (fin s m e') e = tt

-- the bits that the definition gives a NaN
pub nan_bits_lem : (x : Float) → ne x x ≡ true → 9221120237041090560 ≡ to_bits binary64 x
unfolding to_bits
nan_bits_lem x e = sym (ap (to_bits binary64) (differs_from_itself x (subst T (sym e) tt)))

pub payload_rate : (b : ℕ) → b < 2 ^ 64 → payload_of (rate_of b) ≡ b
unfolding rate_of
payload_rate b h = go (nan_bits binary64 b) refl
  where
    go : (t : Bool) → nan_bits binary64 b ≡ t → payload_of (cond t (NanRate b) (Rate (of_bits binary64 b))) ≡ b
    go true e = refl
    go false e = to_bits-of_bits binary64 b h (not_T (sym (nan_bits_is binary64 b) ∙ e))

pub kind_rate : (b : ℕ) → kind_of (rate_of b) ≡ 3
unfolding rate_of
kind_rate b = go (nan_bits binary64 b)
  where
    go : (t : Bool) → kind_of (cond t (NanRate b) (Rate (of_bits binary64 b))) ≡ 3
    go true = refl
    go false = refl

-- the rate that a reader puts into a row
one_zero_below : (b : ℕ) → b < 2 ^ 64 → one_zero b < 2 ^ 64
one_zero_below b h = rate_below (one_zero b) (one_zero_stands b h)

pub payload_row_rate : (b : ℕ) → b < 2 ^ 64 → payload_of (row_rate b) ≡ one_zero b
payload_row_rate b h = payload_rate (one_zero b) (one_zero_below b h)

pub kind_row_rate : (b : ℕ) → kind_of (row_rate b) ≡ 3
kind_row_rate b = kind_rate (one_zero b)
