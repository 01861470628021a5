-- Row tables and their trees (document 01, section "Documents"; which rates stand in rows: document 02, Wish 6). Assumes nothing.
use Rattle.std.specs.Prelude.{◌≡◌, Bool, ◌&&◌, ◌||◌, not, cond, ℕ, zero, suc, ◌-◌, ◌^◌, ◌<◌, ◌≤◌, T, eqb, ltb, length, get_or}
use mathlib.Core.List.{List, [], map, Memᴰ as In}
use Rattle.model.specs.Limits.{max_rows, max_levels}
use Rattle.model.specs.Tree.{Tree, node, forest, levels}
use Rattle.model.specs.Automaton.{Automaton, arity_of}

-- A row: a symbol, a scalar (kind and payload), and the rows of its children.
pub record Row : Type 0 where
  pub symbol : ℕ
  pub kind : ℕ
  pub payload : ℕ
  pub children : List ℕ

abbrev pub no_row : Row
no_row = record { symbol = 0; kind = 0; payload = 0; children = [] }

abbrev pub row_at : List Row → ℕ → Row
row_at rows i = get_or rows i no_row

abbrev pub no_tree : Tree
no_tree = node 0 0 0 (forest [])

-- The tree of row i, cut after n levels.
abbrev pub tree_in : List Row → ℕ → ℕ → Tree
tree_in rows zero i = no_tree
tree_in rows (suc n) i = node (row_at rows i).symbol (row_at rows i).kind (row_at rows i).payload (forest (map (λ j. tree_in rows n j) (row_at rows i).children))

-- The tree of row i: with lower children it has at most i + 1 levels.
abbrev pub tree_at : List Row → ℕ → Tree
tree_at rows i = tree_in rows (suc i) i

-- A table's tree is that of its last row.
abbrev pub tree_of : List Row → Tree
tree_of rows = tree_at rows (length rows - 1)

-- Minus zero: the rate with only its sign bit set (document 02, Wish 6).
abbrev pub minus_zero : ℕ
minus_zero = 2 ^ 63

-- A rate that may stand in a row: any 64 bits but those of minus zero.
abbrev pub rate? : ℕ → Bool
rate? p = ltb p (2 ^ 64) && not (eqb p minus_zero)

-- The rate that a reader puts into a row: minus zero becomes positive zero, and any other stays as it is.
unfoldable pub one_zero : ℕ → ℕ
one_zero p = cond (eqb p minus_zero) 0 p

-- The five kinds: bare 0, a flag 1, a count 2, a rate 3, a name 4.
abbrev pub scalar? : ℕ → ℕ → Bool
scalar? k p = (eqb k 0 && eqb p 0) || (eqb k 1 && ltb p 2) || (eqb k 2 && ltb p (2 ^ 64)) || (eqb k 3 && rate? p) || (eqb k 4 && ltb p (2 ^ 32))

-- Each child of a row stands below it.
abbrev pub Lower : List Row → Type 0
Lower rows = (i : ℕ) → i < length rows → (j : ℕ) → In j (row_at rows i).children → j < i

-- No two rows are equal.
abbrev pub Distinct : List Row → Type 0
Distinct rows = (i j : ℕ) → i < length rows → j < length rows → row_at rows i ≡ row_at rows j → i ≡ j

-- Every row but the last is a child of a later one.
abbrev pub AllUsed : List Row → Type 0
AllUsed rows = (i : ℕ) → suc i < length rows → (j : ℕ) × (i < j) × (j < length rows) × In i (row_at rows j).children

-- What a row of a sound table has.
pub record SoundRow (A : Automaton) (r : Row) : Type 0 where
  pub known : r.symbol < length A.arities
  pub as_many : length r.children ≡ arity_of A r.symbol
  pub scalar : T (scalar? r.kind r.payload)
  pub bare : 0 < arity_of A r.symbol → (r.kind ≡ 0) × (r.payload ≡ 0)

pub record SoundTable (A : Automaton) (rows : List Row) : Type 0 where
  pub some_row : 0 < length rows
  pub few_rows : length rows ≤ max_rows
  pub each : (i : ℕ) → i < length rows → SoundRow A (row_at rows i)
  pub lower : Lower rows
  pub distinct : Distinct rows
  pub used : AllUsed rows
  pub low : levels (tree_of rows) ≤ max_levels
