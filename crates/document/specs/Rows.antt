-- Lent rows: ten 16-bit cells each, and the rows that they hold (document 01, section "Documents"). Assumes nothing.
use Rattle.std.specs.Prelude.{◌≡◌, cond, ℕ, zero, suc, ◌+◌, ◌*◌, ◌/◌, ◌%◌, ◌^◌, ◌<◌, ◌≤◌, eqb, length, get_or}
use mathlib.Core.List.{List, [], ◌∷◌, ◌++◌, Memᴰ as In}
use Rattle.model.specs.Limits.{max_children, unused}
use Rattle.model.specs.Lists.{concat_map, tab}
use Rattle.model.specs.Table.{Row}

-- the cells of a row: symbol, child places, kind, payload
abbrev pub row_cells : ℕ
row_cells = 10

-- cell k of row i; 0 past the end
unfoldable pub cell_in : List ℕ → ℕ → ℕ → ℕ
cell_in cells i k = get_or cells (i * row_cells + k) 0

-- the places up to the first unused one
abbrev pub used : List ℕ → List ℕ
used [] = []
used (x ∷ xs) = cond (eqb x unused) [] (x ∷ used xs)

-- the child places of row i, used or not
abbrev pub places_in : List ℕ → ℕ → List ℕ
places_in cells i = tab max_children (λ k. cell_in cells i (1 + k))

-- a number from its cells, lowest first
abbrev pub join_cells : List ℕ → ℕ
join_cells [] = 0
join_cells (x ∷ xs) = x + 65536 * join_cells xs

-- the 64-bit payload of row i, from four cells
abbrev pub payload_in : List ℕ → ℕ → ℕ
payload_in cells i = join_cells (tab 4 (λ k. cell_in cells i (6 + k)))

-- row i
abbrev pub row_in : List ℕ → ℕ → Row
row_in cells i = record { symbol = cell_in cells i 0; kind = cell_in cells i 5; payload = payload_in cells i; children = used (places_in cells i) }

-- the rows below n
abbrev pub rows_below : List ℕ → ℕ → List Row
rows_below cells n = tab n (row_in cells)

-- as many rows as fit whole
abbrev pub decode_rows : List ℕ → List Row
decode_rows cells = rows_below cells (length cells / row_cells)

-- the four child places of children, the rest unused
abbrev pub places_of : List ℕ → List ℕ
places_of children = tab max_children (λ k. get_or children k unused)

-- n cells of a number, lowest first
abbrev pub split_cells : ℕ → ℕ → List ℕ
split_cells zero x = []
split_cells (suc n) x = x % 65536 ∷ split_cells n (x / 65536)

-- the ten cells of a row
abbrev pub encode_row : Row → List ℕ
encode_row r = r.symbol ∷ places_of r.children ++ r.kind ∷ split_cells 4 r.payload

abbrev pub encode_rows : List Row → List ℕ
encode_rows rows = concat_map encode_row rows

-- what ten cells can hold
pub record Fits (r : Row) : Type 0 where
  pub symbol : r.symbol < 65536
  pub few : length r.children ≤ max_children
  pub places : (j : ℕ) → In j r.children → j < unused
  pub kind : r.kind < 65536
  pub payload : r.payload < 2 ^ 64

-- what is enough of that for the cells to hold the row
pub record Kept (r : Row) : Type 0 where
  pub few : length r.children ≤ max_children
  pub used_all : used r.children ≡ r.children
  pub payload : r.payload < 2 ^ 64
