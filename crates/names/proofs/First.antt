-- The first index that passes a test: the loop that looks for it, and what it says of every index. Assumes nothing.
use mathlib.Core.Path.{◌≡◌, refl, sym, ap, subst, ◌∙◌}
use mathlib.Core.Logic.{◌⊎◌, inl, inr}
use mathlib.Core.Bool.{Bool, true, false, ◌&&◌, not, cond, true≢false}
use mathlib.Core.Option.{Option, none, some}
use Prim.Native.Nat.{ℕ, zero, suc, ◌<◌, ◌≤◌}
use native.Mathlib.Nat.{eq-or-lt_of_le, le_of_suc-le-suc, not-suc-le-zero}
use native.Mathlib.Omega.{arith}
use Rattle.std.specs.Prelude.{Some, None, Option as Maybe}
use Rattle.std.specs.Option.{MatchOption, is_some}
use Rattle.model.specs.Lists.{all_below, or_else}
use Rattle.names.specs.Names.{first_below}
use Rattle.names.specs.Check.{found_of}

module _ (p : ℕ → Bool) where
  first_at : (n i : ℕ) → first_below i p ≡ none → p i ≡ true → (i < n → first_below n p ≡ some i) → (i ≡ n) ⊎ (i < n)
      → first_below (suc n) p ≡ some i
  unfolding first_below
  first_at n i z t below (inl e) = subst (λ k. first_below (suc k) p ≡ some i) e (rw (first_below, z, t))
  first_at n i z t below (inr l) = rw (first_below, below l)

  pub first_is : (n i : ℕ) → i < n → first_below i p ≡ none → p i ≡ true → first_below n p ≡ some i
  first_is zero i l z t = absurd (not-suc-le-zero l)
  first_is (suc n) i l z t = first_at n i z t (λ k. first_is n i k z t) (eq-or-lt_of_le (le_of_suc-le-suc l))

  none_below : (n : ℕ) → ((k : ℕ) → k < n → p k ≡ false) → first_below n p ≡ none
  unfolding first_below
  none_below zero h = refl
  none_below (suc n) h = rw (none_below n (λ k l. h k (omega arith)), h n (omega arith))

  -- what `find` answers over the numbers below n
  pub first_found : (n : ℕ) (r : Maybe ℕ)
      → MatchOption r ((k : ℕ) → 0 ≤ k → k < n → p k ≡ false) (λ i. (0 ≤ i) × (i < n) × (p i ≡ true) × ((k : ℕ) → 0 ≤ k → k < i → p k ≡ false))
      → found_of r ≡ first_below n p
  first_found n None h = sym (none_below n (λ k l. h k (omega arith) l))
  first_found n (Some i) h = sym (first_is n i h.1 (none_below i (λ k l. h.3 k (omega arith) l)) h.2)

-- nothing is found where every index fails
abbrev none? : Option ℕ → Bool
none? none = true
none? (some k) = false

pub none_all : (p : ℕ → Bool) (n : ℕ) → none? (first_below n p) ≡ all_below n (λ j. not (p j))
unfolding first_below all_below
none_all p zero = refl
none_all p (suc n) = go (first_below n p) (p n) ∙ ap (λ b. b && not (p n)) (none_all p n)
  where
    go : (o : Option ℕ) (t : Bool) → none? (or_else o (cond t (some n) none)) ≡ (none? o && not t)
    go none true = refl
    go none false = refl
    go (some k) true = refl
    go (some k) false = refl

module _ (p : ℕ → Bool) (n : ℕ) where
  pub all_unfound : none ≡ first_below n p → true ≡ all_below n (λ j. not (p j))
  all_unfound e = ap none? e ∙ none_all p n

  pub one_found : (k : ℕ) → some k ≡ first_below n p → false ≡ all_below n (λ j. not (p j))
  one_found k e = ap none? e ∙ none_all p n

  pub unfound_all : all_below n (λ j. not (p j)) ≡ true → first_below n p ≡ none
  unfound_all h = go (first_below n p) (none_all p n ∙ h)
    where
      go : (o : Option ℕ) → none? o ≡ true → o ≡ none
      go none e = refl
      go (some k) e = let z : ◌≡◌ {A = Bool} false true = e in absurd (true≢false (sym z))

turned : (b t : Bool) → t ≡ not b → b ≡ not t
turned true t e = sym (ap not e)
turned false t e = sym (ap not e)

-- none is found where `is_none` says so
pub none_new : (p : ℕ → Bool) (n : ℕ) (r : Maybe ℕ) (b : Bool) → found_of r ≡ first_below n p → is_some r ≡ not b → b ≡ all_below n (λ j. not (p j))
none_new p n None b e is = turned b false is ∙ all_unfound p n e
none_new p n (Some i) b e is = turned b true is ∙ one_found p n i e

-- what is found is below n and passes
pub found_passes : (p : ℕ → Bool) (n i : ℕ) → first_below n p ≡ some i → (i < n) × (p i ≡ true)
unfolding first_below
found_passes p zero i h = let z : ◌≡◌ {A = ℕ} 0 1 = cc in absurd (omega arith)
found_passes p (suc n) i h = go (first_below n p) (p n) refl refl (λ e. found_passes p n i e) h
  where
    go : (o : Option ℕ) (t : Bool) → first_below n p ≡ o → p n ≡ t → (first_below n p ≡ some i → (i < n) × (p i ≡ true))
        → or_else o (cond t (some n) none) ≡ some i → (i < suc n) × (p i ≡ true)
    go none true eo et ih e = let q : n ≡ i = cc in (omega arith, subst (λ k. p k ≡ true) q et)
    go none false eo et ih e = let z : ◌≡◌ {A = ℕ} 0 1 = cc in absurd (omega arith)
    go (some k) t eo et ih e = let r = ih (eo ∙ e) in (omega (arith, r.0), r.1)

-- only the indices below n count
pub first_same : (p q : ℕ → Bool) (n : ℕ) → ((i : ℕ) → i < n → p i ≡ q i) → first_below n p ≡ first_below n q
unfolding first_below
first_same p q zero h = refl
first_same p q (suc n) h =
    ap (λ o. or_else o (cond (p n) (some n) none)) (first_same p q n (λ i l. h i (omega arith)))
    ∙ ap (λ t. or_else (first_below n q) (cond t (some n) none)) (h n (omega arith))
