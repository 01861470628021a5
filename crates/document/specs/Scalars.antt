-- Scalars as values, and what a row's kind and payload say of them (document 01, section "Documents"; the two zeros: document 02, Wish 6). Assumes nothing.
use Rattle.std.specs.Prelude.{Bool, ◌&&◌, cond, ℕ, zero, suc, eqb, Option, Some, None}
use Rattle.std.specs.Float.{binary64}
use Rattle.std.specs.Float.Ieee.{nan_bits, of_bits, to_bits}
use Rattle.model.specs.Table.{one_zero, scalar?}
use Rattle.document.specs.declared.scalar.Scalar.{Scalar}
use Rattle.document.specs.declared.scalar.Scalar.TheVariants.{Bare, Flag, Count, Rate, NanRate, Name}

-- the rate of any 64 bits; those of a NaN are kept as a number
unfoldable pub rate_of : ℕ → Scalar
rate_of bits = cond (nan_bits binary64 bits) (NanRate bits) (Rate (of_bits binary64 bits))

-- the rate that a reader puts into a row for these bits: minus zero becomes zero
abbrev pub row_rate : ℕ → Scalar
row_rate bits = rate_of (one_zero bits)

-- the kind's number
abbrev pub kind_of : Scalar → ℕ
kind_of Bare = 0
kind_of (Flag b) = 1
kind_of (Count n) = 2
kind_of (Rate x) = 3
kind_of (NanRate bits) = 3
kind_of (Name n) = 4

-- the payload: of a rate, its bits
abbrev pub payload_of : Scalar → ℕ
payload_of Bare = 0
payload_of (Flag b) = cond b 1 0
payload_of (Count n) = n
payload_of (Rate x) = to_bits binary64 x
payload_of (NanRate bits) = bits
payload_of (Name n) = n

-- whether a scalar has kind k and payload p; of a rate, whether all bits agree
abbrev pub has_kind_payload : Scalar → ℕ → ℕ → Bool
has_kind_payload s k p = eqb (kind_of s) k && eqb (payload_of s) p

-- the scalar of a kind and a payload that are one
unfoldable pub scalar_at : ℕ → ℕ → Scalar
scalar_at zero p = Bare
scalar_at (suc zero) p = Flag (eqb p 1)
scalar_at (suc (suc zero)) p = Count p
scalar_at (suc (suc (suc zero))) p = rate_of p
scalar_at (suc (suc (suc (suc k)))) p = Name p

-- a scalar exactly where the kind and the payload are those of one
abbrev pub decode_scalar : ℕ → ℕ → Option Scalar
decode_scalar k p = cond (scalar? k p) (Some (scalar_at k p)) None
