-- The table of a tree: rows in left-to-right order of first finishing, equal rows once (document 01, sections "Documents" and "Joining, demanding both, and the sample"). Assumes nothing.
use Rattle.std.specs.Prelude.{◌≡◌, ◌⊎◌, Bool, ◌&&◌, cond, ℕ, suc, eqb, length}
use mathlib.Core.List.{List, [], ◌∷◌, ◌++◌, Memᴰ as In}
use Rattle.std.proofs.Math.Option.{Option, none, some, map}
use Rattle.model.specs.Tree.{Tree, Forest, node, fnil, fcons}
use Rattle.model.specs.Lists.{eq_list, tab}
use Rattle.model.specs.Table.{Row, tree_at, tree_of}

abbrev pub eq_row : Row → Row → Bool
eq_row a b = eqb a.symbol b.symbol && (eqb a.kind b.kind && (eqb a.payload b.payload && eq_list a.children b.children))

-- the first row that equals r: what a plain scan finds
abbrev pub find_row : Row → List Row → Option ℕ
find_row r [] = none
find_row r (x ∷ rows) = cond (eq_row r x) (some 0) (map suc (find_row r rows))

abbrev pub placed : List Row → Row → Option ℕ → List Row × ℕ
placed rows r (some i) = (rows, i)
placed rows r none = (rows ++ r ∷ [], length rows)

-- the row's number, after it was added where there was none like it
abbrev pub add_row : List Row → Row → List Row × ℕ
add_row rows r = placed rows r (find_row r rows)

unfoldable mutual
  pub add_tree : Tree → List Row → List Row × ℕ
  add_tree (node s k p f) rows =
      let (rows', js) = add_forest f rows in
      add_row rows' (record { symbol = s; kind = k; payload = p; children = js })

  pub add_forest : Forest → List Row → List Row × List ℕ
  add_forest fnil rows = (rows, [])
  add_forest (fcons t f) rows =
      let (rows₁, j) = add_tree t rows in
      let (rows₂, js) = add_forest f rows₁ in
      (rows₂, j ∷ js)

unfoldable pub rows_of : Tree → List Row
unfolding add_tree
rows_of t = (add_tree t []).0

-- The subtrees of a tree in the order in which a walk from left to right finishes them: the children's, then the tree itself.
unfoldable mutual
  pub finished : Tree → List Tree
  finished (node s k p f) = finished_in f ++ node s k p f ∷ []

  pub finished_in : Forest → List Tree
  finished_in fnil = []
  finished_in (fcons t f) = finished t ++ finished_in f

-- The list ts has those of us that were not seen before, each once, in the order of their first places.
abbrev pub Firsts : List Tree → List Tree → List Tree → Type 0
Firsts seen [] ts = ts ≡ []
Firsts seen (u ∷ us) ts =
    (In u seen × Firsts seen us ts) ⊎ ((In u seen → ⊥) × (rest : List Tree) × (ts ≡ u ∷ rest) × Firsts (seen ++ u ∷ []) us rest)

-- The rows are in left-to-right order of first finishing.
abbrev pub FirstFinishing : List Row → Type 0
FirstFinishing rows = Firsts [] (finished (tree_of rows)) (tab (length rows) (tree_at rows))
