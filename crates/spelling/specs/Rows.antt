-- The text of a table's rows, and its length row by row. Assumes nothing.
use Rattle.std.specs.Prelude.{List, [], ◌∷◌, ◌++◌, cond, ℕ, ◌+◌, leb, length, get_or, Option, Some, None}
use Rattle.model.specs.Automaton.{Automaton}
use Rattle.model.specs.Table.{Row, tree_at, SoundTable}
use Rattle.document.specs.Rows.{row_in, decode_rows}
use Rattle.spelling.specs.Text.{scalar_text, term_text}

-- the cells are a sound table of some set
pub record SoundCells (cells : List ℕ) : Type 0 where
  pub set : Automaton
  pub table : SoundTable set (decode_rows cells)

-- the text of row i
unfoldable pub row_text : (ℕ → List ℕ) → List ℕ → ℕ → List ℕ
row_text name cells i = term_text name (tree_at (decode_rows cells) i)

-- rows in brackets, by their texts: a byte before the first, a comma before each other
unfoldable pub list_text : (ℕ → List ℕ) → ℕ → List ℕ → List ℕ
list_text text b [] = 41 ∷ []
list_text text b (c ∷ cs) = b ∷ text c ++ list_text text 44 cs

-- the same as a number of bytes, by their lengths
unfoldable pub list_length : List ℕ → List ℕ → ℕ
list_length lengths [] = 1
list_length lengths (c ∷ cs) = 1 + get_or lengths c 0 + list_length lengths cs

-- how many bytes stand behind the name of a row
abbrev pub behind_length : List ℕ → Row → List ℕ → ℕ
behind_length lengths r [] = length (scalar_text r.kind r.payload)
behind_length lengths r (c ∷ cs) = list_length lengths (c ∷ cs)

-- how many bytes row i has, by the lengths of lower rows
unfoldable pub row_length : (ℕ → List ℕ) → List ℕ → List ℕ → ℕ → ℕ
row_length name lengths cells i = length (name (row_in cells i).symbol) + behind_length lengths (row_in cells i) (row_in cells i).children

-- a length that is at most that of the space
unfoldable pub within : ℕ → ℕ → Option ℕ
within space n = cond (leb n space) (Some n) None
