-- A table of the names shown, in cells of one width: a name's length, then its bytes. Assumes nothing.
use Rattle.std.specs.Prelude.{List, ◌∷◌, ℕ, zero, suc, ◌+◌, ◌*◌, length, get_or, take, drop}
use Rattle.model.specs.Limits.{max_symbols}
use Rattle.model.specs.Space.{put_at}
use Rattle.names.specs.Names.{max_name, shown_name}

-- a cell's bytes
abbrev pub cell_bytes : ℕ
cell_bytes = 17

-- what a cell holds of a name: the length and the bytes, as far as a name may go
abbrev pub cell_of : List ℕ → List ℕ
cell_of l = length (take max_name l) ∷ take max_name l

-- the name in cell i
unfoldable pub name_in : List ℕ → ℕ → List ℕ
name_in t i = take (get_or t (i * cell_bytes) 0) (drop (i * cell_bytes + 1) t)

-- a space with the first n names shown in its cells
unfoldable pub with_names : ℕ → List ℕ → List ℕ → List ℕ → List ℕ
with_names zero site built_in t = t
with_names (suc i) site built_in t = put_at (with_names i site built_in t) (i * cell_bytes) (cell_of (shown_name site built_in i))

-- the whole table
abbrev pub table_of : List ℕ → List ℕ → List ℕ → List ℕ
table_of = with_names max_symbols
