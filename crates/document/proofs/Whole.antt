-- 15, 16 and 17 as facts: rows without equals, rows that are used, and levels. Assumes nothing.
use mathlib.Core.Path.{◌≡◌, refl, sym, subst}
use mathlib.Core.Logic.{◌⊎◌, inl, inr, ⊎_elim}
use mathlib.Core.List.{List, Memᴰ as In}
use mathlib.Core.Bool.{Bool, true, false, not, ◌||◌}
use Prim.Native.Nat.{ℕ, zero, suc, ◌-◌, ◌<◌, ◌≤◌}
use native.Mathlib.Omega.{arith}
use borrow.Author.Tests.{ltb-true, ltb-false, leb-true, lt-ltb, le-leb, not-true}
use lib.Dec.{T, eqb, leb, ltb, eqb→eq, eqb_refl}
use lib.ListN.{length}
use Rattle.model.specs.Limits.{max_levels}
use Rattle.model.specs.Lists.{any, all_below, any_below, uses?}
use Rattle.model.specs.Tree.{levels}
use Rattle.model.specs.Table.{Row, row_at, tree_of, Distinct, AllUsed}
use Rattle.model.specs.Build.{eq_row}
use Rattle.model.proofs.Members.{T_true, in_any, any_in}
use Rattle.model.proofs.Below.{at}
use Rattle.model.proofs.Build.{eq_row→eq, eq_row_refl}
use Rattle.automaton.proofs.Parts.{all_of}
use Rattle.document.specs.Check.{fresh?, used?, distinct_check_of, used_check_of, levels_check_of}
use Rattle.document.proofs.Refusals.{passed, pass, true_and}

-- the order of two numbers
pub order : (i j : ℕ) → (i < j) ⊎ ((i ≡ j) ⊎ (j < i))
order i j = go (ltb i j) refl (ltb j i) refl
  where
    go : (a : Bool) → ltb i j ≡ a → (b : Bool) → ltb j i ≡ b → (i < j) ⊎ ((i ≡ j) ⊎ (j < i))
    go true e b f = inl (ltb-true i j e)
    go false e true f = inr (inr (ltb-true j i f))
    go false e false f = inr (inl (omega (arith, ltb-false i j e, ltb-false j i f)))

module _ (rows : List Row) where
  -- an earlier row that equals row j makes row j fail
  pub not_fresh : (i j : ℕ) → i < j → fresh? rows j ≡ true → row_at rows j ≡ row_at rows i → ⊥
  unfolding fresh?
  not_fresh i j l h e =
      let f = not-true (eq_row (row_at rows j) (row_at rows i)) (at (λ i. not (eq_row (row_at rows j) (row_at rows i))) j i h l) in
      subst T f (subst (λ r. T (eq_row (row_at rows j) r)) e (eq_row_refl (row_at rows j)))

  pub distinct : distinct_check_of rows ≡ 0 → Distinct rows
  unfolding distinct_check_of
  distinct h i j l m e =
      ⊎_elim (λ a. absurd (not_fresh i j a (fresh j m) (sym e))) (⊎_elim (λ a. a) (λ a. absurd (not_fresh j i a (fresh i l) e))) (order i j)
    where
      fresh : (i : ℕ) → i < length rows → fresh? rows i ≡ true
      fresh i l = at (fresh? rows) (length rows) i (passed (all_below (length rows) (fresh? rows)) 15 0 (omega arith) h).0 l

  pub distinct_passes : Distinct rows → distinct_check_of rows ≡ 0
  unfolding distinct_check_of fresh?
  distinct_passes d =
      pass (all_below (length rows) (fresh? rows)) 15 0
      (all_of (length rows) (fresh? rows) (λ j m. all_of j (λ i. not (eq_row (row_at rows j) (row_at rows i))) (λ i l. other i j l m (eq_row (row_at rows j) (row_at rows i)) refl)))
      refl
    where
      other : (i j : ℕ) → i < j → j < length rows → (b : Bool) → eq_row (row_at rows j) (row_at rows i) ≡ b → not b ≡ true
      other i j l m false e = refl
      other i j l m true e =
          let q = d j i m (omega arith) (eq_row→eq (row_at rows j) (row_at rows i) (rw e tt)) in
          let z : ⊥ = omega arith in
          absurd z

or_true_either : (a b : Bool) → (a || b) ≡ true → (a ≡ true) ⊎ (b ≡ true)
or_true_either true b h = inl refl
or_true_either false b h = inr h

true_or_right : (a b : Bool) → b ≡ true → (a || b) ≡ true
true_or_right true b h = refl
true_or_right false b h = h

any_at : (n : ℕ) (p : ℕ → Bool) → any_below n p ≡ true → (j : ℕ) × (j < n) × (p j ≡ true)
unfolding any_below
any_at zero p h = let z : ◌≡◌ {A = ℕ} 0 1 = cc in let y : ⊥ = omega arith in absurd y
any_at (suc n) p h =
    ⊎_elim (λ g. let (j, l, e) = any_at n p g in (j, omega arith, e)) (λ g. (n, omega arith, g)) (or_true_either (any_below n p) (p n) h)

at_any : (n : ℕ) (p : ℕ → Bool) (j : ℕ) → j < n → p j ≡ true → any_below n p ≡ true
unfolding any_below
at_any zero p j l h = let z : ⊥ = omega arith in absurd z
at_any (suc n) p j l h =
    ⊎_elim (λ a. rw (at_any n p j a h)) (⊎_elim (λ a. true_or_right (any_below n p) (p n) (rw a at h)) (λ a. let z : ⊥ = omega arith in absurd z)) (order j n)

module _ (rows : List Row) where
  pub all_used : used_check_of rows ≡ 0 → AllUsed rows
  unfolding used_check_of used? uses?
  all_used h i l =
      let u = at (used? rows) (length rows - 1) i (passed (all_below (length rows - 1) (used? rows)) 16 0 (omega arith) h).0 (omega arith) in
      let (j, m, e) = any_at (length rows) (λ j. uses? j (row_at rows j).children i) u in
      let (low, among) = true_and (ltb i j) (any (eqb i) (row_at rows j).children) e in
      let (x, k, q) = in_any (eqb i) (row_at rows j).children ((T_true (any (eqb i) (row_at rows j).children)).1 among) in
      (j, ltb-true i j low, m, subst (λ y. In y (row_at rows j).children) (sym (eqb→eq i x q)) k)

  pub used_passes : AllUsed rows → used_check_of rows ≡ 0
  unfolding used_check_of used? uses?
  used_passes h =
      pass (all_below (length rows - 1) (used? rows)) 16 0
      (all_of (length rows - 1) (used? rows)
      (λ i l.
      let (j, low, m, k) = h i (omega arith) in
      at_any (length rows) (λ j. uses? j (row_at rows j).children i) j m
      (rw (lt-ltb i j low) ((T_true (any (eqb i) (row_at rows j).children)).0 (any_in (eqb i) k (eqb_refl i))))))
      refl

  pub low : levels_check_of rows ≡ 0 → levels (tree_of rows) ≤ max_levels
  unfolding levels_check_of
  low h = leb-true (levels (tree_of rows)) max_levels (passed (leb (levels (tree_of rows)) max_levels) 17 0 (omega arith) h).0

  pub low_passes : levels (tree_of rows) ≤ max_levels → levels_check_of rows ≡ 0
  unfolding levels_check_of
  low_passes h = pass (leb (levels (tree_of rows)) max_levels) 17 0 (le-leb (levels (tree_of rows)) max_levels h) refl
