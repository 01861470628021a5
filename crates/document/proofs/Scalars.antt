-- What `held` compares; and a kind and a payload that are a scalar's go to it and back unchanged. Assumes nothing.
use mathlib.Core.Path.{◌≡◌, refl, sym}
use Prim.Native.Nat.{ℕ, zero, suc, ◌<◌}
use native.Mathlib.Omega.{arith}
use lib.Dec.{T, eqb, ltb, eqb→eq, ltb→lt}
use Rattle.model.specs.Table.{rate?, scalar?}
use Rattle.model.proofs.Scalars.{by_kind, rate_below}
use Rattle.document.specs.declared.scalar.Scalar.{Scalar}
use Rattle.document.specs.declared.scalar.Scalar.TheVariants.{Flag}
use Rattle.document.specs.Scalars.{kind_of, payload_of, scalar_at}
use Rattle.document.proofs.Rates.{kind_rate, payload_rate}

-- the kind and the payload of s are k and p
pub record Back (k p : ℕ) (s : Scalar) : Type 0 where
  pub kind : kind_of s ≡ k
  pub payload : payload_of s ≡ p

flag_back : (p : ℕ) → p < 2 → payload_of (Flag (eqb p 1)) ≡ p
flag_back zero h = refl
flag_back (suc zero) h = refl
flag_back (suc (suc p)) h = let z : ⊥ = omega arith in absurd z

-- the payload test of each kind
module _ (p : ℕ) where
  bare : T (eqb p 0) → Back 0 p (scalar_at 0 p)
  unfolding scalar_at
  bare h = record { kind = refl; payload = sym (eqb→eq p 0 h) }

  flag : T (ltb p 2) → Back 1 p (scalar_at 1 p)
  unfolding scalar_at
  flag h = record { kind = refl; payload = flag_back p (ltb→lt p 2 h) }

  count : Back 2 p (scalar_at 2 p)
  unfolding scalar_at
  count = record { kind = refl; payload = refl }

  rate : T (rate? p) → Back 3 p (scalar_at 3 p)
  unfolding scalar_at
  rate h = record { kind = kind_rate p; payload = payload_rate p (rate_below p h) }

  name : Back 4 p (scalar_at 4 p)
  unfolding scalar_at
  name = record { kind = refl; payload = refl }

-- Every kind and payload that is a scalar goes to a Scalar and back unchanged.
pub there_and_back : (k p : ℕ) → T (scalar? k p) → Back k p (scalar_at k p)
there_and_back k p = by_kind (λ j. Back j p (scalar_at j p)) p (bare p) (flag p) (λ t. count p) (rate p) (λ t. name p) k
