-- What holds for each number below n, and for n. Assumes nothing.
use mathlib.Core.Path.{◌≡◌, refl, sym, subst}
use mathlib.Core.Logic.{⊎_elim}
use Prim.Native.Nat.{ℕ, ◌+◌, ◌<◌}
use native.Mathlib.Nat.{eq-or-lt_of_le}
use native.Mathlib.Omega.{arith}

pub each_more : (P : ℕ → Type 0) (n : ℕ) → P n → ((k : ℕ) → k < n → P k) → (k : ℕ) → k < n + 1 → P k
each_more P n here below k l = ⊎_elim (λ e. subst P (sym e) here) (below k) (eq-or-lt_of_le (omega (arith, l)))

-- numbered things, no two of them equal, stay so with one more that equals none of them
module _ {A : Type 0} (f : ℕ → A) (n : ℕ) (distinct : (j k : ℕ) → j < n → k < n → f j ≡ f k → j ≡ k) (new : (k : ℕ) → k < n → f n ≡ f k → ⊥) where
  pub distinct_more : (j k : ℕ) → j < n + 1 → k < n + 1 → f j ≡ f k → j ≡ k
  distinct_more j k l m =
      each_more (λ x. f x ≡ f k → x ≡ k) n
      (each_more (λ y. f n ≡ f y → n ≡ y) n (λ e. refl) (λ y b e. absurd (new y b e)) k m)
      (λ x a. each_more (λ y. f x ≡ f y → x ≡ y) n (λ e. absurd (new x a (sym e))) (λ y b. distinct x y a b) k m)
      j l
