-- What the passes of the table check ask of the rows and leave in their scratch. Assumes nothing.
use Rattle.std.specs.Prelude.{◌≡◌, List, [], ◌∷◌, Bool, false, ◌||◌, ℕ, ◌/◌, ◌<◌, ◌≤◌, T, length, get_or}
use Rattle.model.specs.Limits.{max_rows}
use Rattle.model.specs.Lists.{larger, uses?}
use Rattle.model.specs.Table.{scalar?}
use Rattle.model.specs.Build.{eq_row}
use Rattle.document.specs.Rows.{row_cells, row_in}
use Rattle.document.specs.Index.{start_slot}

-- n is the number of rows, and 11 does not refuse them for it
pub record Counted (cells : List ℕ) (n : ℕ) : Type 0 where
  pub rows : n ≡ length cells / row_cells
  pub some : 0 < n
  pub few : n ≤ max_rows

-- the kind and the payload of each row are a scalar
abbrev pub AllScalars : List ℕ → ℕ → Type 0
AllScalars cells n = (i : ℕ) → i < n → T (scalar? (row_in cells i).kind (row_in cells i).payload)

-- row i equals row j
abbrev pub same_as : List ℕ → ℕ → ℕ → Bool
same_as cells j i = eq_row (row_in cells j) (row_in cells i)

-- the slot where row j is looked for first
abbrev pub start_of : List ℕ → ℕ → ℕ
start_of cells j = start_slot (row_in cells j)

-- after the children cs of row j are marked: what was marked, and those of them that are lower
abbrev pub Marked : ℕ → List ℕ → List Bool → List Bool → Type 0
Marked j cs before after = (i : ℕ) → i < length before → get_or after i false ≡ (get_or before i false || uses? j cs i)

-- the largest of the heights of the rows listed
abbrev pub highest_of : List ℕ → List ℕ → ℕ
highest_of heights [] = 0
highest_of heights (c ∷ cs) = larger (get_or heights c 0) (highest_of heights cs)
