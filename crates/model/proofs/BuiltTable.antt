-- The table of a tree that fits an automaton is sound; a table built again from its tree has as many rows. Assumes nothing.
use mathlib.Core.Path.{◌≡◌, refl, sym, ap, ◌∙◌, subst}
use mathlib.Core.Logic.{◌↔◌}
use mathlib.Core.Option.{some, some-injective, none-ne-some}
use mathlib.Core.List.Memᴰ
use mathlib.Core.List.{List, [], ◌∷◌, ◌++◌, map, Memᴰ as In}
use Prim.Native.Nat.{ℕ, zero, suc, ◌+◌, ◌-◌, ◌<◌, ◌≤◌}
use native.Mathlib.Omega.{arith}
use native.Mathlib.Decide.{dec_lt}
use lib.ListN.{length, get_elem?, length-map}
use Rattle.model.specs.Limits.{max_rows, max_levels}
use Rattle.model.specs.Lists.{tab}
use Rattle.model.specs.Tree.{Tree, Forest, node, fnil, fcons, trees, forest, children_of, at, and_then, levels}
use Rattle.model.specs.Automaton.{Automaton}
use Rattle.model.specs.Table.{Row, row_at, tree_in, tree_at, tree_of, Lower, Distinct, AllUsed, SoundRow, SoundTable}
use Rattle.model.specs.Fit.{FitNode, FitTree, FitForest}
use Rattle.model.specs.Build.{rows_of}
use Rattle.model.proofs.Tab.{length_tab, tab_in}
use Rattle.model.proofs.Count.{place_of_lem, pigeonhole}
use Rattle.model.proofs.Levels.{at_in}
use Rattle.model.proofs.Rows.{trees_forest, at_step, kid_at, equal_trees, row_at_lem}
use Rattle.model.proofs.Build.{table}

module _ (A : Automaton) where
  mutual
    unfolding FitTree

    pub fit_at : (t : Tree) → FitTree A t → (p : List ℕ) (u : Tree) → at t p ≡ some u → FitNode A u
    fit_at (node s k x f) h [] u e = subst (FitNode A) (some-injective _ _ e) h.0
    fit_at (node s k x f) h (j ∷ p) u e = fits_at f h.1 j p u e

    fits_at : (f : Forest) → FitForest A f → (j : ℕ) (p : List ℕ) (u : Tree) → at_in f j p ≡ some u → FitNode A u
    fits_at fnil h j p u e = absurd (none-ne-some u e)
    fits_at (fcons t f) h zero p u e = fit_at t h.0 p u e
    fits_at (fcons t f) h (suc j) p u e = fits_at f h.1 j p u e

  mutual
    unfolding FitTree

    pub at_fit : (t : Tree) → ((p : List ℕ) (u : Tree) → at t p ≡ some u → FitNode A u) → FitTree A t
    at_fit (node s k x f) h = (h [] (node s k x f) refl, at_fits f (λ j p. h (j ∷ p)))

    at_fits : (f : Forest) → ((j : ℕ) (p : List ℕ) (u : Tree) → at_in f j p ≡ some u → FitNode A u) → FitForest A f
    at_fits fnil h = tt
    at_fits (fcons t f) h = (at_fit t (h 0), at_fits f (λ j. h (suc j)))

  as_many_trees : (rows : List Row) (i : ℕ) → length (trees (forest (map (λ j. tree_in rows i j) (row_at rows i).children))) ≡ length (row_at rows i).children
  as_many_trees rows i = ap length (trees_forest (map (λ j. tree_in rows i j) (row_at rows i).children)) ∙ length-map (row_at rows i).children (λ j. tree_in rows i j)

  -- a row is sound exactly where the root of its tree fits
  pub sound_row : (rows : List Row) (i : ℕ) → FitNode A (tree_at rows i) ↔ SoundRow A (row_at rows i)
  sound_row rows i = (
    λ h. record { known = h.known; as_many = sym (as_many_trees rows i) ∙ h.as_many; scalar = h.scalar; bare = h.bare },
    λ h. record { known = h.known; as_many = as_many_trees rows i ∙ h.as_many; scalar = h.scalar; bare = h.bare },
  )

  -- THE TABLE OF A TREE THAT FITS IS SOUND
  pub sound_table : (t : Tree) → FitTree A t → levels t ≤ max_levels → length (rows_of t) ≤ max_rows → SoundTable A (rows_of t)
  sound_table t h low few =
      let T = table t in
      record {
        some_row = T.some_row;
        few_rows = few;
        each = λ i l. let (p, e) = T.subtrees i l in (sound_row (rows_of t) i).0 (fit_at t h p (tree_at (rows_of t) i) e);
        lower = T.lower;
        distinct = T.distinct;
        used = T.used;
        low = subst (λ z. levels z ≤ max_levels) (sym T.tree) low;
      }

-- no more rows than a list that holds every subtree
pub few_rows : (rows : List Row) → Lower rows → Distinct rows → (t : Tree) → ((i : ℕ) → i < length rows → (p : List ℕ) × (at t p ≡ some (tree_at rows i))) → (us : List Tree) → ((p : List ℕ) (u : Tree) → at t p ≡ some u → In u us) → length rows ≤ length us
few_rows rows lower distinct t sub us h =
    pigeonhole (λ i u. tree_at rows i ≡ u) (length rows) us
    (λ i l. let (p, e) = sub i l in (tree_at rows i, h p (tree_at rows i) e, refl))
    (λ i j u li lj a b. (equal_trees rows lower distinct i j li lj).0 (a ∙ sym b))

module _ (rows : List Row) (lower : Lower rows) where
  in_rows : 0 < length rows → (p : List ℕ) (u : Tree) → at (tree_of rows) p ≡ some u → In u (tab (length rows) (tree_at rows))
  in_rows l p u e = let (j, lj, q) = row_at_lem rows lower p (length rows - 1) (omega arith) u e in Memᴰ.cast q (tab_in (length rows) (tree_at rows) j lj)

  -- where every row is used, its tree stands in the last row's
  from_last : AllUsed rows → (n i : ℕ) → i < length rows → length rows ≤ i + n → (p : List ℕ) × (at (tree_of rows) p ≡ some (tree_at rows i))
  from_last used zero i l b = let z : ⊥ = omega arith in absurd z
  from_last used (suc n) i l b = go (dec_lt (suc i) (length rows)) (λ j h g. from_last used n j g (omega arith))
    where
      go : Dec (suc i < length rows) → ((j : ℕ) → i < j → j < length rows → (p : List ℕ) × (at (tree_of rows) p ≡ some (tree_at rows j))) → (p : List ℕ) × (at (tree_of rows) p ≡ some (tree_at rows i))
      go (no h) ih = let e : length rows - 1 ≡ i = omega arith in ([], ap (λ z. some (tree_at rows z)) e)
      go (yes h) ih =
          let (j, a, g, m) = used i h in
          let (p, e) = ih j a g in
          let (c, lc, ec) = place_of_lem 0 m in
          (p ++ c ∷ [], at_step p (tree_of rows) c ∙ ap (λ o. and_then o (λ u. get_elem? (children_of u) c)) e ∙ kid_at rows lower j g c lc ∙ ap (λ z. some (tree_at rows z)) ec)

-- THE SAME TREE AND AS MANY ROWS, where a sound table is built again from its tree
pub same_tree : (rows : List Row) → tree_of (rows_of (tree_of rows)) ≡ tree_of rows
same_tree rows = (table (tree_of rows)).tree

module _ (A : Automaton) (rows : List Row) (sound : SoundTable A rows) where
  pub as_many_rows : length (rows_of (tree_of rows)) ≡ length rows
  as_many_rows =
      let T = table (tree_of rows) in
      let a = few_rows (rows_of (tree_of rows)) T.lower T.distinct (tree_of rows) T.subtrees (tab (length rows) (tree_at rows)) (in_rows rows sound.lower sound.some_row) in
      let b = few_rows rows sound.lower sound.distinct (tree_of rows) (λ i l. from_last rows sound.lower sound.used (length rows) i l (omega arith)) (tab (length (rows_of (tree_of rows))) (tree_at (rows_of (tree_of rows))))
      (λ p u e. in_rows (rows_of (tree_of rows)) T.lower T.some_row p u (ap (λ t. at t p) T.tree ∙ e)) in
      omega (arith, length_tab (length rows) (tree_at rows), length_tab (length (rows_of (tree_of rows))) (tree_at (rows_of (tree_of rows))))

  -- every node of a sound table's tree fits
  pub fit_tree : FitTree A (tree_of rows)
  fit_tree =
      at_fit A (tree_of rows)
      (λ p u e.
      let l = sound.some_row in
      let (j, lj, q) = row_at_lem rows sound.lower p (length rows - 1) (omega arith) u e in
      subst (FitNode A) (sym q) ((sound_row A rows j).1 (sound.each j lj)))

  pub sound_again : SoundTable A (rows_of (tree_of rows))
  sound_again = sound_table A (tree_of rows) fit_tree sound.low (subst (◌≤ max_rows) (sym as_many_rows) sound.few_rows)
