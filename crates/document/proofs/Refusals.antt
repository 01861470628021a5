-- Refusals by number: no refusal exactly where each test passes. Assumes nothing.
use mathlib.Core.Path.{◌≡◌, refl}
use mathlib.Core.Bool.{Bool, true, false, ◌&&◌}
use Prim.Native.Nat.{ℕ, zero, suc, ◌≤◌, ◌<◌}
use native.Mathlib.Omega.{arith}
use borrow.Author.Tests.{le-leb, lt-leb}
use lib.Dec.{leb}
use Rattle.model.specs.Refusal.{demand, and_after}

pub passed : (b : Bool) (n rest : ℕ) → 0 < n → demand b n rest ≡ 0 → (b ≡ true) × (rest ≡ 0)
unfolding demand
passed true n rest l h = (refl, h)
passed false n rest l h = let z : ⊥ = omega arith in absurd z

pub pass : (b : Bool) (n rest : ℕ) → b ≡ true → rest ≡ 0 → demand b n rest ≡ 0
unfolding demand
pass b n rest e h = rw e h

pub both_passed : (a b : ℕ) → and_after a b ≡ 0 → (a ≡ 0) × (b ≡ 0)
unfolding and_after
both_passed zero b h = (refl, h)
both_passed (suc a) b h = let z : ⊥ = omega arith in absurd z

pub both_pass : (a b : ℕ) → a ≡ 0 → b ≡ 0 → and_after a b ≡ 0
unfolding and_after
both_pass a b e h = rw e h

pub true_and : (a b : Bool) → (a && b) ≡ true → (a ≡ true) × (b ≡ true)
true_and true b h = (refl, h)
true_and false b h = let z : ◌≡◌ {A = ℕ} 0 1 = cc in let y : ⊥ = omega arith in absurd y

-- a number r that equals l tells what the demand that l keeps a limit says
module _ (l r limit n : ℕ) (e : r ≡ l) where
  pub kept : r ≤ limit → 0 ≡ demand (leb l limit) n 0
  unfolding demand
  kept h = rw (le-leb l limit (omega arith))

  pub over : limit < r → n ≡ demand (leb l limit) n 0
  unfolding demand
  over h = rw (lt-leb l limit (omega arith))
