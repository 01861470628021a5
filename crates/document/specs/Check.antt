-- The table check: which number refuses a table of lent cells (document 01, section "Turned away, by place"). Four tests, each with a definition of its own. Assumes nothing.
use Rattle.std.specs.Prelude.{List, Bool, true, false, ◌&&◌, not, cond, ℕ, ◌-◌, ◌/◌, ◌%◌, eqb, leb, ltb, length, get_or}
use Rattle.model.specs.Limits.{max_children, max_rows, max_levels, unused}
use Rattle.model.specs.Lists.{all_below, any_below, uses?}
use Rattle.model.specs.Refusal.{demand, and_after}
use Rattle.model.specs.Tree.{levels}
use Rattle.model.specs.Automaton.{Automaton, arity_of}
use Rattle.model.specs.Table.{Row, row_at, tree_of, scalar?}
use Rattle.model.specs.Build.{eq_row}
use Rattle.automaton.specs.Stored.{decode}
use Rattle.automaton.specs.Check.{check_of}
use Rattle.document.specs.Rows.{row_cells, places_in, row_in, decode_rows}

-- as many rows as fit whole
abbrev pub row_count : List ℕ → ℕ
row_count cells = length cells / row_cells

-- 11: at least one row, at most 1,024, and none cut short
unfoldable pub counted? : List ℕ → Bool
counted? cells = leb 1 (row_count cells) && (leb (row_count cells) max_rows && eqb (length cells % row_cells) 0)

-- 12, at one row: a known symbol
unfoldable pub known? : Automaton → List ℕ → ℕ → Bool
known? A cells i = ltb (row_in cells i).symbol (length A.arities)

-- place k of row i; no row has more than four places
unfoldable pub place_in : List ℕ → ℕ → ℕ → ℕ
place_in cells i k = get_or (places_in cells i) k unused

-- a place in use holds a lower row than i, any other 65535
abbrev pub place? : Bool → ℕ → ℕ → Bool
place? true i x = ltb x i
place? false i x = eqb x unused

-- at place k of row i, whose symbol has n children: the first n places are in use
unfoldable pub child? : List ℕ → ℕ → ℕ → ℕ → Bool
child? cells i n k = place? (ltb k n) i (place_in cells i k)

-- the number of children that the symbol of row i has
abbrev pub arity_in : Automaton → List ℕ → ℕ → ℕ
arity_in A cells i = arity_of A (row_in cells i).symbol

-- 13, at one row: a lower row in each place in use, 65535 in any other
unfoldable pub children? : Automaton → List ℕ → ℕ → Bool
children? A cells i = all_below max_children (child? cells i (arity_in A cells i))

-- on a symbol with n children: a scalar where there are none, else kind 0 and payload 0
abbrev pub scalar_for? : ℕ → ℕ → ℕ → Bool
scalar_for? n kind payload = cond (eqb n 0) (scalar? kind payload) (eqb kind 0 && eqb payload 0)

-- 14, at one row: the kind and the payload fit the symbol
unfoldable pub scalar_fits? : Automaton → List ℕ → ℕ → Bool
scalar_fits? A cells i = scalar_for? (arity_in A cells i) (row_in cells i).kind (row_in cells i).payload

-- 11 to 14: the form of the rows, each by itself
unfoldable pub form_check_of : Automaton → List ℕ → ℕ
form_check_of A cells =
    demand (counted? cells) 11
    (demand (all_below (row_count cells) (known? A cells)) 12
    (demand (all_below (row_count cells) (children? A cells)) 13
    (demand (all_below (row_count cells) (scalar_fits? A cells)) 14 0)))

-- row j equals no earlier row
unfoldable pub fresh? : List Row → ℕ → Bool
fresh? rows j = all_below j (λ i. not (eq_row (row_at rows j) (row_at rows i)))

-- 15: no two rows are equal
unfoldable pub distinct_check_of : List Row → ℕ
distinct_check_of rows = demand (all_below (length rows) (fresh? rows)) 15 0

-- some later row has row i as a child
unfoldable pub used? : List Row → ℕ → Bool
used? rows i = any_below (length rows) (λ j. uses? j (row_at rows j).children i)

-- 16: every row but the last is used by a later one
unfoldable pub used_check_of : List Row → ℕ
used_check_of rows = demand (all_below (length rows - 1) (used? rows)) 16 0

-- 17: the tree is not too high
unfoldable pub levels_check_of : List Row → ℕ
levels_check_of rows = demand (leb (levels (tree_of rows)) max_levels) 17 0

-- the four tests in the paper's order; 0 where the table is sound
unfoldable pub table_check_of : Automaton → List ℕ → ℕ
table_check_of A cells =
    and_after (form_check_of A cells)
    (and_after (distinct_check_of (decode_rows cells))
    (and_after (used_check_of (decode_rows cells))
    (levels_check_of (decode_rows cells))))

-- the set is tried before the table
abbrev pub document_check_of : List ℕ → List ℕ → ℕ
document_check_of set cells = and_after (check_of set) (table_check_of (decode set) cells)
