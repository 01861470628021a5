-- Reading a whole JSON text by a key list. Assumes nothing.
use Rattle.std.specs.Prelude.{List, [], cond, ℕ, ◌/◌, min, eqb, length}
use Rattle.model.specs.Limits.{max_rows, max_levels}
use Rattle.model.specs.Table.{Row}
use Rattle.document.specs.Rows.{row_cells}
use Rattle.names.specs.Lines.{lines}
use Rattle.jsontext.specs.Spaces.{space_end}
use Rattle.jsonrows.specs.Keys.{keys_fit?}
use Rattle.jsonrows.specs.Grammar.{Setting, Outcome, good, refused, built, value}

-- what reading a text gives: the rows, or of them what is asked; or a refusal's number and place
pub data Reading (A : Type 0) : Type 0 where
  rows_read : A → Reading A
  refused_at : ℕ → ℕ → Reading A

-- what f makes of the rows
abbrev pub reading_map : {A B : Type 0} → (A → B) → Reading A → Reading B
reading_map f (rows_read a) = rows_read (f a)
reading_map f (refused_at w p) = refused_at w p

-- nothing but white space follows the value
abbrev pub whole_text : List ℕ → Outcome → Reading (List Row)
whole_text t (good j next b) = cond (eqb (space_end t next) (length t)) (rows_read b.rows) (refused_at 71 (space_end t next))
whole_text t (refused w p) = refused_at w p

-- a text by the listed keys, of at most so many levels
unfoldable pub read_text : ℕ → Setting → List ℕ → Reading (List Row)
read_text levels S t = whole_text t (value levels S t (space_end t 0) (built [] []))

-- the lines of a key list, and a space for so many cells of rows
abbrev pub setting_for : List ℕ → ℕ → Setting
setting_for list space = record { keys = lines list; limit = min max_rows (space / row_cells) }

-- 74 first, then the text
unfoldable pub read_of : List ℕ → List ℕ → ℕ → Reading (List Row)
read_of list text space = cond (keys_fit? list) (read_text max_levels (setting_for list space) text) (refused_at 74 0)
