-- Building the witness's rows: the trees of the states are added from left to right, each state's once (document 01, section "Joining, demanding both, and the sample"). Assumes nothing.
use Rattle.std.specs.Prelude.{◌≡◌, List, ◌++◌, cond, ℕ, ◌+◌, ◌*◌, ◌<◌, ◌≤◌, ltb, length, get_or, set, drop}
use Rattle.std.proofs.Math.Option.{none, some}
use Rattle.model.specs.Limits.{max_children, max_states, max_rows, unused}
use Rattle.model.specs.Lists.{tab}
use Rattle.model.specs.Tree.{Tree, levels}
use Rattle.model.specs.Automaton.{Rule, Automaton}
use Rattle.model.specs.Sound.{Sound}
use Rattle.model.specs.Order.{place}
use Rattle.model.specs.Table.{Row, tree_at, Lower}
use Rattle.model.specs.Build.{add_tree}
use Rattle.model.specs.Witness.{rounds}
use Rattle.document.specs.declared.builder.Placed.{Placed}
use Rattle.document.specs.declared.builder.Placed.TheVariants.{Known, Added, Full}
use Rattle.document.specs.Rows.{row_cells, used, rows_below, encode_rows, Kept}
use Rattle.document.specs.Builder.{Built, find_or_add}
use Rattle.emptiness.specs.Marking.{Marked}

-- the rows of a rule's child states, 65535 where the memo has none
unfoldable pub memo_place : List ℕ → Rule → ℕ → ℕ
memo_place memo r k = get_or memo (place r k) unused

-- the row of a rule over the rows of its child states, with a bare scalar
abbrev pub rule_row : List ℕ → Rule → Row
rule_row memo r = record { symbol = r.symbol; kind = 0; payload = 0; children = used (tab max_children (memo_place memo r)) }

-- the memo with state q's row; a number that is no state's changes nothing
unfoldable pub noted : List ℕ → ℕ → ℕ → List ℕ
noted memo q x = cond (ltb q max_states) (set memo q x) memo

-- the memo and the number of rows after the row was found, or added, for state q
abbrev pub remembered : List ℕ → ℕ → Placed → List ℕ
remembered memo q (Known i) = noted memo q i.0
remembered memo q (Added i) = noted memo q i.0
remembered memo q Full = memo

abbrev pub counted : ℕ → Placed → ℕ
counted n (Known i) = n
counted n (Added i) = n + 1
counted n Full = n

-- the row of rule r was put into the table as state q's
pub record RowPut (r : Rule) (limit q : ℕ) (cells slots memo : List ℕ) (n : ℕ) (cells' slots' memo' : List ℕ) (n' : ℕ) : Type 0 where
  pub cells_are : cells' ≡ (find_or_add cells slots n limit (rule_row memo r)).cells
  pub slots_are : slots' ≡ (find_or_add cells slots n limit (rule_row memo r)).slots
  pub memo_is : memo' ≡ remembered memo q (find_or_add cells slots n limit (rule_row memo r)).answer
  pub count : n' ≡ counted n (find_or_add cells slots n limit (rule_row memo r)).answer
  pub kept : Kept (rule_row memo r)

-- row i has the tree of state q after N rounds
pub record RowOf (A : Automaton) (N : ℕ) (rows : List Row) (q i : ℕ) : Type 0 where
  pub inside : i < length rows
  pub tree : get_or (rounds A N) q none ≡ some (tree_at rows i)

-- n rows at the front of the space, the rest as in `base`; the memo has the row of each state that was met
pub record Tabled (A : Automaton) (N : ℕ) (base cells slots memo : List ℕ) (n : ℕ) : Type 0 where
  pub long : length memo ≡ max_states
  pub built : Built cells slots n
  pub lower : Lower (rows_below cells n)
  pub front : cells ≡ encode_rows (rows_below cells n) ++ drop (n * row_cells) base
  pub rows : (q : ℕ) → (get_or memo q unused ≡ unused → ⊥) → RowOf A N (rows_below cells n) q (get_or memo q unused)

-- what is asked where the tree t of state q is to be added
pub record Job (A : Automaton) (marks : List ℕ) (limit depth q : ℕ) (cells slots memo : List ℕ) (n N : ℕ) (base : List ℕ) (t : Tree) : Type 0 where
  pub sound : Sound A
  pub marks_are : Marked A N marks
  pub tree_of : get_or (rounds A N) q none ≡ some t
  pub deep : levels t ≤ depth
  pub few : limit ≤ max_rows
  pub space : limit * row_cells ≤ length base
  pub room : length (add_tree t (rows_below cells n)).0 ≤ limit
  pub tabled : Tabled A N base cells slots memo n

-- and what holds when it was
pub record Done (A : Automaton) (q : ℕ) (cells memo : List ℕ) (n N : ℕ) (base : List ℕ) (t : Tree) (cells' slots' memo' : List ℕ) (n' : ℕ) : Type 0 where
  pub tabled : Tabled A N base cells' slots' memo' n'
  pub rows : rows_below cells' n' ≡ (add_tree t (rows_below cells n)).0
  pub known : get_or memo' q unused ≡ unused → ⊥
  pub stays : (p : ℕ) → (get_or memo p unused ≡ unused → ⊥) → get_or memo' p unused ≡ unused → ⊥

-- The tree of state q is added to the rows, wherever that is asked.
pub record Builds (A : Automaton) (marks : List ℕ) (limit depth q : ℕ) (cells slots memo : List ℕ) (n : ℕ) (cells' slots' memo' : List ℕ) (n' : ℕ) : Type 0 where
  pub gives : (N : ℕ) (base : List ℕ) (t : Tree) → Job A marks limit depth q cells slots memo n N base t → Done A q cells memo n N base t cells' slots' memo' n'
