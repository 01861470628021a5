-- Adding a tree to a table: rows are only added, and a tree that is already there adds none. Assumes nothing.
use mathlib.Core.Path.{◌≡◌, refl, ap, ◌∙◌}
use mathlib.Core.List.Memᴰ.{head as here}
use mathlib.Core.List.Memᴰ.{tail as there}
use mathlib.Core.List.{List, [], ◌∷◌, map, Memᴰ as In}
use mathlib.Core.Option.{Option, none, some}
use Prim.Native.Nat.{ℕ, zero, suc, ◌<◌, ◌≤◌}
use native.Mathlib.Omega.{arith}
use lib.ListN.{length, get_or, length-append}
use Rattle.model.specs.Tree.{Tree, Forest, node, fnil, fcons, forest, levels, highest}
use Rattle.model.specs.Table.{Row, row_at, tree_at, Lower, Distinct}
use Rattle.model.specs.Build.{find_row, placed, add_row, add_tree, add_forest}
use Rattle.model.proofs.Levels.{larger_bounds}
use Rattle.model.proofs.Rows.{tree_eq}
use Rattle.model.proofs.Build.{Found, find_ok}

placed_longer : (rows : List Row) (r : Row) (o : Option ℕ) → length rows ≤ length (placed rows r o).0
placed_longer rows r (some i) = omega arith
placed_longer rows r none = omega (arith, length-append rows (r ∷ []))

mutual
  unfolding add_tree

  pub tree_longer : (t : Tree) (rows : List Row) → length rows ≤ length (add_tree t rows).0
  tree_longer (node s k p f) rows =
      let o = add_forest f rows in
      let r : Row = record { symbol = s; kind = k; payload = p; children = o.1 } in
      let a = forest_longer f rows in
      let b = placed_longer o.0 r (find_row r o.0) in
      omega arith

  pub forest_longer : (f : Forest) (rows : List Row) → length rows ≤ length (add_forest f rows).0
  forest_longer fnil rows = omega arith
  forest_longer (fcons t f) rows =
      let a = tree_longer t rows in
      let b = forest_longer f (add_tree t rows).0 in
      omega arith

-- a tree's children are added before its own row
pub forest_first : (s k p : ℕ) (f : Forest) (rows : List Row) → length (add_forest f rows).0 ≤ length (add_tree (node s k p f) rows).0
unfolding add_tree
forest_first s k p f rows =
    let o = add_forest f rows in
    let r : Row = record { symbol = s; kind = k; payload = p; children = o.1 } in
    placed_longer o.0 r (find_row r o.0)

pub tree_then : (t : Tree) (ts : List Tree) (rows : List Row) → (add_forest (forest (t ∷ ts)) rows).0 ≡ (add_forest (forest ts) (add_tree t rows).0).0
unfolding add_tree
tree_then t ts rows = refl

pub none_then : (rows : List Row) → (add_forest (forest []) rows).0 ≡ rows
unfolding add_tree
none_then rows = refl

pub root_then : (s k p : ℕ) (f : Forest) (rows : List Row) → add_tree (node s k p f) rows ≡ add_row (add_forest f rows).0 (record { symbol = s; kind = k; payload = p; children = (add_forest f rows).1 })
unfolding add_tree
root_then s k p f rows = refl

-- the levels of a node's children
pub kid_levels : (d : Tree) (ts : List Tree) (k : ℕ) → k < length ts → levels (get_or ts k d) ≤ highest (forest ts)
unfolding levels
kid_levels d [] k l = let z : ⊥ = omega arith in absurd z
kid_levels d (t ∷ ts) zero l = (larger_bounds (levels t) (highest (forest ts))).0
kid_levels d (t ∷ ts) (suc k) l = let h = kid_levels d ts k (omega arith) in omega (arith, larger_bounds (levels t) (highest (forest ts)))

pub node_levels : (s k p : ℕ) (f : Forest) → levels (node s k p f) ≡ suc (highest f)
unfolding levels
node_levels s k p f = refl

module _ (rows : List Row) (lower : Lower rows) (distinct : Distinct rows) where
  same_place : (i : ℕ) → i < length rows → (o : Option ℕ) → Found (row_at rows i) rows o → placed rows (row_at rows i) o ≡ (rows, i)
  same_place i l (some j) h = ap {B = List Row × ℕ} (λ z. (rows, z)) (distinct j i h.0 l h.1)
  same_place i l none h = absurd (h i l refl)

  row_there : (i : ℕ) → i < length rows → add_row rows (row_at rows i) ≡ (rows, i)
  row_there i l = same_place i l (find_row (row_at rows i) rows) (find_ok (row_at rows i) rows)

  abbrev There : ℕ → Type 0
  There j = add_tree (tree_at rows j) rows ≡ (rows, j)

  forest_there : (js : List ℕ) → ((j : ℕ) → In j js → There j) → add_forest (forest (map (tree_at rows) js)) rows ≡ (rows, js)
  unfolding add_tree
  forest_there [] h = refl
  forest_there (j ∷ js) h =
      let e = h j (here refl) in
      let g = forest_there js (λ i m. h i (there m)) in
      ap {B = List Row × List ℕ} (λ o. ((add_forest (forest (map (tree_at rows) js)) o.0).0, o.1 ∷ (add_forest (forest (map (tree_at rows) js)) o.0).1)) e
      ∙ ap {B = List Row × List ℕ} (λ o. (o.0, j ∷ o.1)) g

  -- A TREE THAT IS IN THE TABLE ADDS NOTHING
  pub tree_there : (n i : ℕ) → i < n → i < length rows → There i
  unfolding add_tree
  tree_there zero i a l = let z : ⊥ = omega arith in absurd z
  tree_there (suc n) i a l =
      ap (λ t. add_tree t rows) (tree_eq rows lower i l)
      ∙ ap (λ o. add_row o.0 (record { symbol = (row_at rows i).symbol; kind = (row_at rows i).kind; payload = (row_at rows i).payload; children = o.1 })) (forest_there (row_at rows i).children (λ j m. let b = lower i l j m in tree_there n j (omega arith) (omega arith)))
      ∙ row_there i l
