-- The entries of an object's keys, one by one. Assumes nothing.
use mathlib.Core.Path.{◌≡◌, refl, sym, ap, ◌∙◌}
use mathlib.Core.Bool.{Bool, true, false, ◌||◌}
use mathlib.Core.List.{List, [], ◌∷◌}
use Prim.Native.Nat.{ℕ, suc, ◌+◌, ◌-◌, ◌<◌, ◌≤◌}
use native.Mathlib.Numerals.{add-one}
use native.Mathlib.Omega.{arith}
use borrow.Author.Tests.{eq-eqb, ne_eqb}
use lib.Dec.{eqb}
use lib.ListN.{length, get_or, take, drop}
use lib.Seq.{drop-cons}
use Rattle.model.specs.Lists.{any}
use Rattle.jsonrows.specs.Seen.{entries}

pub entries_cons : (p : List ℕ) (i hi : ℕ) → i < hi → hi ≤ length p → entries p i hi ≡ get_or p i 0 ∷ entries p (i + 1) hi
entries_cons p i hi l m =
    let e : hi - i ≡ suc (hi - (i + 1)) = omega (arith, l) in
    (λ k. take (e k) ((drop-cons p i 0 (omega (arith, l, m)) ∙ ap (λ n. get_or p i 0 ∷ drop n p) (sym (add-one i))) k))

pub entries_none : (p : List ℕ) (i hi : ℕ) → hi ≤ i → entries p i hi ≡ []
entries_none p i hi l = let e : hi - i ≡ 0 = omega (arith, l) in ap (λ n. take n (drop i p)) e

-- At the loop's head none of the entries passed is the one that is looked for.
module _ (entry : ℕ) (p : List ℕ) (lo i hi : ℕ) where
  pub record Passed : Type 0 where
    pub rest : any (eqb entry) (entries p lo hi) ≡ any (eqb entry) (entries p i hi)

pub passed_none : (entry : ℕ) (p : List ℕ) (lo hi : ℕ) → Passed entry p lo lo hi
passed_none entry p lo hi = record { rest = refl }

module _ (entry : ℕ) (p : List ℕ) (lo i hi : ℕ) (v : Passed entry p lo i hi) where
  module _ (l : i < hi) (m : hi ≤ length p) where
    turn : (b : Bool) → eqb entry (get_or p i 0) ≡ b → any (eqb entry) (entries p lo hi) ≡ (b || any (eqb entry) (entries p (i + 1) hi))
    turn b e = v.rest ∙ ap (any (eqb entry)) (entries_cons p i hi l m) ∙ ap (λ c. c || any (eqb entry) (entries p (i + 1) hi)) e

    pub passed_here : get_or p i 0 ≡ entry → true ≡ any (eqb entry) (entries p lo hi)
    passed_here e = sym (turn true (eq-eqb entry (get_or p i 0) (sym e)))

    pub passed_more : (get_or p i 0 ≡ entry → ⊥) → Passed entry p lo (i + 1) hi
    passed_more n = record { rest = turn false (ne_eqb entry (get_or p i 0) (λ e. n (sym e))) }

  pub passed_all : hi ≤ i → false ≡ any (eqb entry) (entries p lo hi)
  passed_all l = sym (v.rest ∙ ap (any (eqb entry)) (entries_none p i hi l))
