-- What holds of whatever is read at a place. Assumes nothing.
use mathlib.Core.Path.{◌≡◌}
use Prim.Native.Nat.{ℕ}
use native.Mathlib.Omega.{arith}
use Rattle.base.specs.Text.{Got, got, fault}

-- what was read, with the place after it, passes a test
pub data Reads {A : Type 0} (P : A → ℕ → Type 0) : Got A → Type 0 where
  reads : {v : A} {e : ℕ} → P v e → Reads P (got v e)
  none_read : {p : ℕ} → Reads P (fault p)

pub read_is : {A : Type 0} (P : A → ℕ → Type 0) (v : A) (e : ℕ) {g : Got A} → g ≡ got v e → Reads P g → P v e
read_is P v e q (reads {v = w} {e = f} h) = let y : w ≡ v = cc in let z : f ≡ e = cc in rw (y, z) at h
read_is P v e q none_read = let z : ◌≡◌ {A = ℕ} 0 1 = cc in absurd (omega arith)

pub read_as : {A : Type 0} (P Q : A → ℕ → Type 0) {g : Got A} → ((v : A) (e : ℕ) → P v e → Q v e) → Reads P g → Reads Q g
read_as P Q f (reads h) = reads (f _ _ h)
read_as P Q f none_read = none_read
