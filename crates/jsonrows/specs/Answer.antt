-- What the reader answers, and what it leaves in the lent space. Assumes nothing.
use Rattle.std.specs.Prelude.{◌≡◌, List, ◌++◌, ℕ, ◌*◌, length, drop, Result, Ok, Err}
use Rattle.model.specs.Table.{Row}
use Rattle.document.specs.Rows.{row_cells, encode_rows}
use Rattle.jsonrows.specs.Read.{Reading, rows_read, refused_at, reading_map}
use Rattle.base.specs.Refusals.{number}
use Rattle.base.specs.declared.refusal.TextRefusal.{TextRefusal}

-- the answer: the number of rows, or a refusal
abbrev pub read_answer : Result ℕ TextRefusal → Reading ℕ
read_answer (Ok n) = rows_read n
read_answer (Err e) = refused_at (number e.refusal) e.place

-- what lies in the lent space afterwards: rows go to its front, a refusal writes nothing
abbrev pub space_after : Reading (List Row) → List ℕ → List ℕ
space_after (rows_read rows) space = encode_rows rows ++ drop (length rows * row_cells) space
space_after (refused_at w p) space = space

-- an answer, and the space after it
pub record Answers (v : Reading (List Row)) (r : Result ℕ TextRefusal) (before after : List ℕ) : Type 0 where
  pub answer : read_answer r ≡ reading_map length v
  pub space : after ≡ space_after v before
