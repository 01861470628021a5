-- Writing a table and reading the bytes that were left (document 01, section "Term text"). Assumes nothing.
use Rattle.std.specs.Prelude.{◌≡◌, List, ◌++◌, ℕ, ◌<◌, length, get_or, take, drop}
use Rattle.model.specs.Table.{Row, tree_of}
use Rattle.model.specs.Build.{rows_of, FirstFinishing}
use Rattle.document.specs.Rows.{decode_rows}
use Rattle.term.specs.Read.{Reading, rows_read, reading_map, read_of, space_after as rows_after}
use Rattle.spelling.specs.Write.{table_text, write_of, space_after}

-- the first n bytes of the space d after a table was written there
abbrev pub bytes_left : List ℕ → List ℕ → List ℕ → List ℕ → List ℕ → ℕ → List ℕ
bytes_left set site built_in cells d n = take n (space_after (write_of set site built_in cells (length d)) d)

-- these bytes read, with the space e for rows
abbrev pub read_again : List ℕ → List ℕ → List ℕ → List ℕ → List ℕ → ℕ → List ℕ → Reading (List Row)
read_again set site built_in cells d n e = read_of set site built_in (bytes_left set site built_in cells d n) (length e)

-- The n bytes left in the space d are the table's text, and reading them into the space e gives the table back.
pub record ReadBack (set site built_in cells d : List ℕ) (n : ℕ) (e : List ℕ) : Type 0 where
  -- the bytes are the text of the table's tree
  pub text : bytes_left set site built_in cells d n ≡ table_text site built_in cells
  -- they are read as its rows in order of first finishing
  pub rows : read_again set site built_in cells d n e ≡ rows_read (rows_of (tree_of (decode_rows cells)))
  -- as many as the table has
  pub as_many : reading_map length (read_again set site built_in cells d n e) ≡ rows_read (length (decode_rows cells))
  -- with the same tree
  pub same_tree : tree_of (rows_of (tree_of (decode_rows cells))) ≡ tree_of (decode_rows cells)
  -- and the same cells, where the table's rows were in that order and its cells are 16-bit numbers
  pub same_cells : FirstFinishing (decode_rows cells) → ((j : ℕ) → get_or cells j 0 < 65536) → rows_after (read_again set site built_in cells d n e) e ≡ cells ++ drop (length cells) e
