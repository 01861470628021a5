-- A row as three numbers, its words: four cells, four, and two, in each the first cell lowest. Assumes nothing.
use Rattle.std.specs.Prelude.{◌≡◌, List, ◌++◌, Bool, ◌&&◌, ℕ, ◌+◌, ltb, get_or}
use Rattle.model.specs.Limits.{max_rows}
use Rattle.model.specs.Lists.{eq_list, tab}
use Rattle.model.specs.Table.{Row}
use Rattle.document.specs.Rows.{row_cells, cell_in, split_cells, encode_row, Kept}

-- the ten cells of three words
abbrev pub words_cells : ℕ → ℕ → ℕ → List ℕ
words_cells a b c = split_cells 4 a ++ split_cells 4 b ++ split_cells 2 c

-- the words are the cells of row r, and the cells hold all of it
pub record Words (r : Row) (a b c : ℕ) : Type 0 where
  pub kept : Kept r
  pub cells : encode_row r ≡ words_cells a b c

-- n cells from a place on
abbrev pub cells_at : ℕ → List ℕ → ℕ → List ℕ
cells_at n cells at = tab n (λ k. get_or cells (at + k) 0)

-- whether row i, of as many as a table may have, has the cells of the words
unfoldable pub same_words : List ℕ → ℕ → ℕ → ℕ → ℕ → Bool
same_words cells a b c i = ltb i max_rows && eq_list (words_cells a b c) (tab row_cells (cell_in cells i))
