-- Laws of tests, and of tests over every index below a number. Assumes nothing.
use mathlib.Core.Path.{◌≡◌, refl, subst}
use mathlib.Core.Logic.{◌⊎◌, inl, inr}
use mathlib.Core.Bool.{Bool, true, false, ◌&&◌, not}
use Prim.Native.Nat.{ℕ, zero, suc, ◌<◌, ◌≤◌}
use native.Mathlib.Omega.{arith}
use borrow.Author.Tests.{ltb-true, ltb-false}
use lib.Dec.{T, ltb}
use Rattle.model.specs.Lists.{all_below}
use Rattle.model.proofs.Below.{at}

pub and_false : (a : Bool) → (a && false) ≡ false
and_false true = refl
and_false false = refl

pub and_true : (a b : Bool) → (a && b) ≡ true → (a ≡ true) × (b ≡ true)
and_true true b e = (refl, e)
and_true false b e = (e, absurd (subst (λ x. T (not x)) e tt))

pub split : (i n : ℕ) → (i < n) ⊎ (n ≤ i)
split i n = go (ltb i n) refl
  where
    go : (t : Bool) → ltb i n ≡ t → (i < n) ⊎ (n ≤ i)
    go true e = inl (ltb-true i n e)
    go false e = inr (ltb-false i n e)

all_true : (n : ℕ) (p : ℕ → Bool) → ((i : ℕ) → i < n → p i ≡ true) → all_below n p ≡ true
unfolding all_below
all_true zero p h = refl
all_true (suc n) p h = rw (all_true n p (λ i l. h i (omega arith)), h n (omega arith))

pub shorter : (p : ℕ → Bool) (m n : ℕ) → m ≤ n → all_below n p ≡ true → all_below m p ≡ true
shorter p m n l h = all_true m p (λ i k. at p n i h (omega arith))

pub all_same : (p q : ℕ → Bool) (n : ℕ) → ((i : ℕ) → i < n → p i ≡ q i) → all_below n p ≡ all_below n q
unfolding all_below
all_same p q zero h = refl
all_same p q (suc n) h = cc (all_same p q n (λ i l. h i (omega arith)), h n (omega arith))
