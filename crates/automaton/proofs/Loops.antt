-- A loop that fills an array by index, and one that compares two rows of numbers place by place. Assumes nothing.
use mathlib.Core.Path.{◌≡◌, refl, sym, ap, ◌∙◌}
use mathlib.Core.Bool.{true, false}
use mathlib.Core.List.{List, [], ◌∷◌, map}
use Prim.Native.Nat.{ℕ, zero, suc, ◌+◌, ◌<◌, ◌≤◌, zero-le}
use native.Mathlib.Nat.{le_antisymm, ne_of_lt}
use native.Mathlib.Numerals.{add-one-le}
use native.Mathlib.Omega.{arith}
use borrow.Author.Rules.{rules}
use borrow.Author.Count.{below_more}
use borrow.Author.Tests.{lt-ltb, le-ltb, eq-eqb, ne_eqb}
use lib.Dec.{ltb}
use lib.ListN.{length, get_or, set, length-set, length-map}
use lib.Seq.{ext_get_or, get_or-set_same, get_or-set_other}
use Rattle.model.specs.Lists.{tab}
use Rattle.model.specs.Order.{lower?}
use Rattle.model.proofs.Tab.{tab_at, length_tab}

map_set : {A : Type 0} (g : A → ℕ) (xs : List A) (k : ℕ) (x : A) → map g (set xs k x) ≡ set (map g xs) k (g x)
map_set g [] k x = refl
map_set g (y ∷ xs) zero x = refl
map_set g (y ∷ xs) (suc k) x = ap (λ (l : List ℕ). g y ∷ l) (map_set g xs k x)

-- at the loop's head: the array has m places, and the numbers g of what those below k hold are f
pub record Filled {A : Type 0} (g : A → ℕ) (f : ℕ → ℕ) (m : ℕ) (out : List A) (k : ℕ) : Type 0 where
  pub long : length out ≡ m
  pub inside : k ≤ m
  pub is : (j : ℕ) → j < k → get_or (map g out) j 0 ≡ f j

module _ {A : Type 0} (g : A → ℕ) (f : ℕ → ℕ) (m : ℕ) (out : List A) where
  pub filled_none : length out ≡ m → Filled g f m out 0
  filled_none e = record { long = e; inside = zero-le; is = λ j l. absurd (omega arith) }

  pub filled_more : (k : ℕ) (x : A) → Filled g f m out k → k < m → g x ≡ f k → Filled g f m (set out k x) (k + 1)
  filled_more k x h l e = record {
    long = length-set out k x ∙ h.long;
    inside = add-one-le l;
    is = rw (map_set g out k x) (below_more (λ j. get_or (set (map g out) k (g x)) j 0 ≡ f j) k
        (λ j lj. get_or-set_other (map g out) k j (g x) 0 (ne_of_lt lj) ∙ h.is j lj)
        (get_or-set_same (map g out) k (g x) 0 (rw (length-map out g, h.long) l) ∙ e));
  }

  pub filled_all : (k : ℕ) → Filled g f m out k → m ≤ k → map g out ≡ tab m f
  filled_all k h l =
      let n : length (map g out) ≡ m = length-map out g ∙ h.long in
      ext_get_or 0 (map g out) (tab m f) (n ∙ sym (length_tab m f))
      (λ j lj. let lm : j < m = rw n at lj in h.is j (omega arith) ∙ sym (tab_at 0 m f j lm))

pub ruleset fills = (filled_none, filled_more, filled_all, rules)

-- of two rows, the first place at which they differ decides
pub lower_at : (n : ℕ) (f g : ℕ → ℕ) (k : ℕ) → k < n → ((j : ℕ) → j < k → f j ≡ g j) → f k < g k → lower? (tab n f) (tab n g) ≡ true
lower_at zero f g k l same h = absurd (omega arith)
lower_at (suc n) f g zero l same h = rw (lt-ltb (f 0) (g 0) h)
lower_at (suc n) f g (suc k) l same h =
    let e : f 0 ≡ g 0 = same 0 (omega arith) in
    let lt : ltb (f 0) (g 0) ≡ false = le-ltb (f 0) (g 0) (omega arith) in
    rw (lt, eq-eqb (f 0) (g 0) e) (lower_at n (λ i. f (suc i)) (λ i. g (suc i)) k (omega arith) (λ j lj. same (suc j) (omega arith)) h)

pub higher_at : (n : ℕ) (f g : ℕ → ℕ) (k : ℕ) → k < n → ((j : ℕ) → j < k → f j ≡ g j) → g k < f k → lower? (tab n f) (tab n g) ≡ false
higher_at zero f g k l same h = refl
higher_at (suc n) f g zero l same h =
    rw (le-ltb (f 0) (g 0) (omega arith), ne_eqb (f 0) (g 0) (λ e. omega arith))
higher_at (suc n) f g (suc k) l same h =
    let e : f 0 ≡ g 0 = same 0 (omega arith) in
    let lt : ltb (f 0) (g 0) ≡ false = le-ltb (f 0) (g 0) (omega arith) in
    rw (lt, eq-eqb (f 0) (g 0) e) (higher_at n (λ i. f (suc i)) (λ i. g (suc i)) k (omega arith) (λ j lj. same (suc j) (omega arith)) h)

pub lower_none : (n : ℕ) (f g : ℕ → ℕ) → ((j : ℕ) → j < n → f j ≡ g j) → lower? (tab n f) (tab n g) ≡ false
lower_none zero f g same = refl
lower_none (suc n) f g same =
    let e : f 0 ≡ g 0 = same 0 (omega arith) in
    let lt : ltb (f 0) (g 0) ≡ false = le-ltb (f 0) (g 0) (omega arith) in
    rw (lt, eq-eqb (f 0) (g 0) e) (lower_none n (λ i. f (suc i)) (λ i. g (suc i)) (λ j lj. same (suc j) (omega arith)))

-- at the loop's head: n is the number m of places, and the rows agree below k
pub record Level (f g : ℕ → ℕ) (m n k : ℕ) : Type 0 where
  pub count : n ≡ m
  pub inside : k ≤ n
  pub same : (j : ℕ) → j < k → f j ≡ g j

module _ (f g : ℕ → ℕ) (m n : ℕ) where
  pub level_none : n ≡ m → Level f g m n 0
  level_none e = record { count = e; inside = zero-le; same = λ j l. absurd (omega arith) }

  module _ (k x y : ℕ) (h : Level f g m n k) (l : k < n) (ex : x ≡ f k) (ey : y ≡ g k) where
    pub level_more : y ≤ x → x ≤ y → Level f g m n (k + 1)
    level_more a b = record {
      count = h.count;
      inside = add-one-le l;
      same = below_more _ k h.same (sym ex ∙ le_antisymm b a ∙ ey);
    }

    pub level_less : x < y → true ≡ lower? (tab m f) (tab m g)
    level_less a = sym (lower_at m f g k (rw h.count at l) h.same (rw (← ex, ← ey) a))

    pub level_over : y ≤ x → y < x → false ≡ lower? (tab m f) (tab m g)
    level_over b a = sym (higher_at m f g k (rw h.count at l) h.same (rw (← ex, ← ey) a))

  pub level_end : (k : ℕ) → Level f g m n k → n ≤ k → false ≡ lower? (tab m f) (tab m g)
  level_end k h l = sym (lower_none m f g (λ j lj. let c = h.count in h.same j (omega arith)))

pub ruleset levels = (level_none, level_more, level_less, level_over, level_end, rules)
