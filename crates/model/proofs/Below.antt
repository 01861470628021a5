-- A loop that tests every index below n and leaves at the first that fails: what it knows at its head, and what it may return. Assumes nothing.
use mathlib.Core.Path.{◌≡◌, refl, sym, ◌∙◌, subst}
use mathlib.Core.Bool.{Bool, true, false, ◌&&◌, ◌||◌}
use mathlib.Core.Logic.{◌⊎◌, inl, inr, ⊎_elim}
use Prim.Native.Nat.{ℕ, zero, suc, ◌+◌, ◌<◌, ◌≤◌, zero-le}
use native.Mathlib.Nat.{le_of_suc-le-suc, not-suc-le-zero, eq-or-lt_of_le, le_antisymm}
use native.Mathlib.Numerals.{add-one, add-one-le}
use borrow.Author.Rules.{rules}
use native.Mathlib.Omega.{arith}
use lib.Dec.{T}
use Rattle.model.proofs.Members.{T_true, and_T, or_left, or_right}
use Rattle.model.specs.Lists.{all_below, any_below}

and_false : (a : Bool) → (a && false) ≡ false
and_false true = refl
and_false false = refl

true_not_false : true ≡ false → ⊥
true_not_false e = subst T e tt

yes : (b : Bool) → (b ≡ false → ⊥) → b ≡ true
yes true h = refl
yes false h = absurd (h refl)

module _ (p : ℕ → Bool) where
  stopped_at : (n i : ℕ) → p i ≡ false → (i < n → all_below n p ≡ false) → (i ≡ n) ⊎ (i < n) → all_below (suc n) p ≡ false
  unfolding all_below
  stopped_at n i f below (inl e) = rw (← e, f, and_false)
  stopped_at n i f below (inr l) = rw (below l)

  pub fails : (n i : ℕ) → i < n → p i ≡ false → all_below n p ≡ false
  fails zero i l f = absurd (not-suc-le-zero l)
  fails (suc n) i l f = stopped_at n i f (λ l'. fails n i l' f) (eq-or-lt_of_le (le_of_suc-le-suc l))

  -- what the whole test tells of one index
  pub at : (n i : ℕ) → all_below n p ≡ true → i < n → p i ≡ true
  at n i h l = yes (p i) (λ f. true_not_false (sym h ∙ fails n i l f))

pub all_at : (n : ℕ) (f : ℕ → Bool) → T (all_below n f) → (i : ℕ) → i < n → T (f i)
all_at n f h i l = (T_true (f i)).1 (at f n i ((T_true (all_below n f)).0 h) l)

pub all_of : (n : ℕ) (f : ℕ → Bool) → ((i : ℕ) → i < n → T (f i)) → T (all_below n f)
unfolding all_below
all_of zero f h = tt
all_of (suc n) f h = and_T (all_below n f) (f n) (all_of n f (λ i l. h i (omega arith))) (h n (omega arith))

-- a test that passes somewhere below n passes at a number
pub any_below_lem : (n : ℕ) (p : ℕ → Bool) → T (any_below n p) → (i : ℕ) × (i < n) × T (p i)
unfolding any_below
any_below_lem zero p h = absurd h
any_below_lem (suc n) p h = go (any_below n p) h (λ g. any_below_lem n p g)
  where
    go : (b : Bool) → T (b || p n) → (T b → (i : ℕ) × (i < n) × T (p i)) → (i : ℕ) × (i < suc n) × T (p i)
    go true g ih = let (i, l, t) = ih tt in (i, omega arith, t)
    go false g ih = (n, omega arith, g)

pub below_any : (n : ℕ) (p : ℕ → Bool) (i : ℕ) → i < n → T (p i) → T (any_below n p)
unfolding any_below
below_any zero p i l t = absurd (not-suc-le-zero l)
below_any (suc n) p i l t = ⊎_elim (λ e. or_right (any_below n p) (p n) (subst (λ (k : ℕ). T (p k)) e t)) (λ g. or_left (any_below n p) (p n) (below_any n p i g t)) (eq-or-lt_of_le (le_of_suc-le-suc l))

-- at the loop's head: n is the number m of indices to test, and those below i pass
pub record Passed (p : ℕ → Bool) (m n i : ℕ) : Type 0 where
  pub count : n ≡ m
  pub inside : i ≤ n
  pub passed : all_below i p ≡ true

-- the loop begins; goes on, where a test r of i passed; is left at the end; is left by a test that failed
module _ (p : ℕ → Bool) (m n : ℕ) where
  pub passed_none : n ≡ m → Passed p m n 0
  unfolding all_below
  passed_none e = record { count = e; inside = zero-le; passed = refl }

  pub passed_more : (i : ℕ) (r : Bool) → Passed p m n i → i < n → r ≡ p i → r ≡ true → Passed p m n (i + 1)
  unfolding all_below
  passed_more i r h l e t = record { count = h.count; inside = add-one-le l; passed = rw (add-one, h.passed, ← e, t) }

  pub passed_all : (i : ℕ) → Passed p m n i → n ≤ i → true ≡ all_below m p
  passed_all i h l = rw (← h.count, ← le_antisymm h.inside l, h.passed)

  pub stopped : (i : ℕ) (r : Bool) → Passed p m n i → i < n → r ≡ p i → r ≡ false → false ≡ all_below m p
  stopped i r h l e f = rw (← h.count, fails p n i l (sym e ∙ f))

pub ruleset loops = (passed_none, passed_more, passed_all, stopped, rules)
