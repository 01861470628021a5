-- Counting tests that pass from the first on: what the loops know at their heads. Assumes nothing.
use mathlib.Core.Path.{◌≡◌, refl, ap}
use mathlib.Core.Bool.{Bool, true, false}
use Prim.Native.Nat.{ℕ, zero, suc, ◌+◌, ◌<◌, ◌≤◌}
use native.Mathlib.Omega.{arith}
use borrow.Author.Count.{below_more}
use Rattle.base.specs.Text.{leading}

-- of m tests the first n pass
pub record Led (p : ℕ → Bool) (m n : ℕ) : Type 0 where
  pub inside : n ≤ m
  pub passed : (k : ℕ) → k < n → p k ≡ true

ends : (p : ℕ → Bool) (m n : ℕ) → n ≤ m → ((k : ℕ) → k < n → p k ≡ true) → (n < m → p n ≡ false) → n ≡ leading m p
unfolding leading
ends p zero n h f s = omega arith
ends p (suc m) zero h f s = let e : p 0 ≡ false = s (omega arith) in rw (leading, e)
ends p (suc m) (suc n) h f s =
    let e : p 0 ≡ true = f 0 (omega arith) in
    rw (leading, e) (ap suc (ends (λ k. p (suc k)) m n (omega arith) (λ k l. f (suc k) (omega arith)) (λ l. s (omega arith))))

module _ (p : ℕ → Bool) (m : ℕ) where
  pub led_none : Led p m 0
  led_none = record { inside = omega arith; passed = λ k l. let z : ⊥ = omega arith in absurd z }

  module _ (n : ℕ) (v : Led p m n) where
    pub led_more : n < m → p n ≡ true → Led p m (n + 1)
    led_more h e = record { inside = omega arith; passed = below_more _ _ v.passed e }

    pub led_stop : n < m → p n ≡ false → n ≡ leading m p
    led_stop h e = ends p m n v.inside v.passed (λ l. e)

    pub led_all : m ≤ n → n ≡ leading m p
    led_all h = ends p m n v.inside v.passed (λ l. let z : ⊥ = omega arith in absurd z)

-- what the count says
pub counted : (p : ℕ → Bool) (m : ℕ) → Led p m (leading m p)
unfolding leading
counted p zero = led_none p zero
counted p (suc m) = go (p 0) refl (counted (λ k. p (suc k)) m)
  where
    all : Led (λ k. p (suc k)) m (leading m (λ k. p (suc k))) → p 0 ≡ true → (k : ℕ) → k < suc (leading m (λ k. p (suc k))) → p k ≡ true
    all rest e zero l = e
    all rest e (suc k) l = rest.passed k (omega arith)

    go : (b : Bool) → p 0 ≡ b → Led (λ k. p (suc k)) m (leading m (λ k. p (suc k))) → Led p (suc m) (elim b [ true ↦ suc (leading m (λ k. p (suc k))) | false ↦ 0 ])
    go true e rest = record { inside = omega (arith, rest.inside); passed = all rest e }
    go false e rest = led_none p (suc m)
