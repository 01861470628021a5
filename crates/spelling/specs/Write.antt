-- Writing a table as text against a stored set and two name lists. Assumes nothing.
use Rattle.std.specs.Prelude.{◌≡◌, List, ◌++◌, cond, ℕ, zero, suc, leb, length, drop, Result}
use Rattle.model.specs.Refusal.{Answer, gives, refuses, answer_map}
use Rattle.model.specs.Table.{tree_of}
use Rattle.automaton.specs.Stored.{decode}
use Rattle.automaton.specs.Check.{check_of}
use Rattle.names.specs.Names.{shown_name}
use Rattle.names.specs.Check.{names_check_of}
use Rattle.document.specs.Rows.{decode_rows}
use Rattle.document.specs.Check.{table_check_of}
use Rattle.spelling.specs.Text.{term_text}
use Rattle.base.specs.Refusals as refusals
use Rattle.base.specs.declared.refusal.Refusal.{Refusal}

-- 68: the text is at most as long as the space
unfoldable pub fitted : ℕ → List ℕ → Answer (List ℕ)
fitted space text = cond (leb (length text) space) (gives text) (refuses 68)

-- the number of an earlier place, or what follows
abbrev pub unless_refused : ℕ → Answer (List ℕ) → Answer (List ℕ)
unless_refused zero w = w
unless_refused (suc n) w = refuses (suc n)

-- the text of a table's tree, by the names shown
abbrev pub table_text : List ℕ → List ℕ → List ℕ → List ℕ
table_text site built_in cells = term_text (shown_name site built_in) (tree_of (decode_rows cells))

-- The text of a table, or the number that refuses it: the set, the names, the table, the space.
unfoldable pub write_of : List ℕ → List ℕ → List ℕ → List ℕ → ℕ → Answer (List ℕ)
write_of set site built_in cells space =
    unless_refused (check_of set)
    (unless_refused (names_check_of (length (decode set).arities) site built_in)
    (unless_refused (table_check_of (decode set) cells) (fitted space (table_text site built_in cells))))

-- what writing answers: a number of bytes, or a refusal by its number
abbrev pub write_answer : Result ℕ Refusal → Answer ℕ
write_answer = refusals.answer (λ n. n)

-- what lies in the lent space afterwards: the text goes to its front, a refusal writes nothing
abbrev pub space_after : Answer (List ℕ) → List ℕ → List ℕ
space_after (gives text) space = text ++ drop (length text) space
space_after (refuses n) space = space

-- an answer, and the space after it
pub record Answers (w : Answer (List ℕ)) (r : Result ℕ Refusal) (before after : List ℕ) : Type 0 where
  pub answer : write_answer r ≡ answer_map length w
  pub space : after ≡ space_after w before
