-- Reading a whole text against a stored set and two name lists. Assumes nothing.
use Rattle.std.specs.Prelude.{◌≡◌, List, [], ◌++◌, cond, ℕ, zero, suc, ◌*◌, ◌/◌, min, eqb, length, drop, Result, Ok, Err}
use Rattle.model.specs.Limits.{max_rows, max_levels}
use Rattle.model.specs.Automaton.{arity_of}
use Rattle.model.specs.Table.{Row}
use Rattle.automaton.specs.Stored.{decode}
use Rattle.automaton.specs.Check.{check_of}
use Rattle.names.specs.Names.{find_name}
use Rattle.names.specs.Check.{names_check_of}
use Rattle.document.specs.Rows.{row_cells, encode_rows}
use Rattle.term.specs.Grammar.{Setting, Outcome, good, refused, read_term}
use Rattle.base.specs.Refusals.{number}
use Rattle.base.specs.declared.refusal.TextRefusal.{TextRefusal}

-- what reading a text gives: the rows, or of them what is asked; or a refusal's number and place
pub data Reading (A : Type 0) : Type 0 where
  rows_read : A → Reading A
  refused_at : ℕ → ℕ → Reading A

-- what f makes of the rows
abbrev pub reading_map : {A B : Type 0} → (A → B) → Reading A → Reading B
reading_map f (rows_read a) = rows_read (f a)
reading_map f (refused_at w p) = refused_at w p

-- nothing follows the term
abbrev pub whole_text : ℕ → Outcome ℕ → Reading (List Row)
whole_text end (good j next rows) = cond (eqb next end) (rows_read rows) (refused_at 63 next)
whole_text end (refused w p) = refused_at w p

unfoldable pub read_text : Setting → List ℕ → Reading (List Row)
read_text S t = whole_text (length t) (read_term S t max_levels 0 [])

-- a set's symbols with the names shown, their numbers of children, and a space for so many cells of rows
abbrev pub setting_for : List ℕ → List ℕ → List ℕ → ℕ → Setting
setting_for set site built_in space =
    record {
      symbol = find_name (length (decode set).arities) site built_in;
      arity = arity_of (decode set);
      limit = min max_rows (space / row_cells);
    }

-- the number of an earlier place, which has no place in the text, or what follows
abbrev pub unless_refused : {A : Type 0} → ℕ → Reading A → Reading A
unless_refused zero r = r
unless_refused (suc n) r = refused_at (suc n) 0

-- The set, the names, the text.
unfoldable pub read_of : List ℕ → List ℕ → List ℕ → List ℕ → ℕ → Reading (List Row)
read_of set site built_in text space =
    unless_refused (check_of set)
    (unless_refused (names_check_of (length (decode set).arities) site built_in) (read_text (setting_for set site built_in space) text))

-- the answer: the number of rows, or a refusal
abbrev pub read_answer : Result ℕ TextRefusal → Reading ℕ
read_answer (Ok n) = rows_read n
read_answer (Err e) = refused_at (number e.refusal) e.place

-- what lies in the lent space afterwards: rows go to its front, a refusal writes nothing
abbrev pub space_after : Reading (List Row) → List ℕ → List ℕ
space_after (rows_read rows) space = encode_rows rows ++ drop (length rows * row_cells) space
space_after (refused_at w p) space = space

-- an answer, and the space after it
pub record Answers (v : Reading (List Row)) (r : Result ℕ TextRefusal) (before after : List ℕ) : Type 0 where
  pub answer : read_answer r ≡ reading_map length v
  pub space : after ≡ space_after v before
