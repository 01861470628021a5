-- What the programs print for an input, and where it stands (document 01, section "Examples, with the edges"). Assumes nothing.
use Rattle.std.specs.Prelude.{◌≡◌, List, [], ◌++◌, Bool, true, false, cond, ℕ, ◌*◌, ◌≤◌, leb, length, take, drop}
use Rattle.std.proofs.Math.Option.{Option, none, some}
use Rattle.model.specs.Limits.{max_rows, max_states}
use Rattle.model.specs.Refusal.{Answer, gives, refuses, unless}
use Rattle.model.specs.Tree.{Tree, levels}
use Rattle.model.specs.Table.{Row}
use Rattle.model.specs.Build.{rows_of}
use Rattle.model.specs.Witness.{witness}
use Rattle.model.specs.Annotation.{accepts?}
use Rattle.automaton.specs.Stored.{decode, stated_total}
use Rattle.document.specs.Rows.{row_cells, encode_rows, decode_rows}
use Rattle.runs.specs.Steps.{step_cells}
use Rattle.emptiness.specs.Answer.{witness_check_of}
use Rattle.membership.specs.Cells.{annotation_cells}
use Rattle.membership.specs.Judge.{judge_check_of}
use Rattle.term.specs.Read.{Reading, rows_read, refused_at, read_of}
use Rattle.spelling.specs.Write.{write_of}
use Rattle.console.specs.Words.{refused_line, refusal_line, alive_lines, dead_line, yes_line, no_line}

-- The bytes fit the output space and stand at its front, its rest is as it was, and r is their number.
pub record Printed (bytes before after : List ℕ) (r : ℕ) : Type 0 where
  pub count : r ≡ length bytes
  pub fits : r ≤ length before
  pub space : after ≡ bytes ++ drop (length bytes) before

-- the most bytes of input
abbrev pub max_input : ℕ
max_input = 32768

-- 69 for an input that is too long, tried before all others
abbrev pub within_input : List ℕ → List ℕ → List ℕ
within_input input bytes = cond (leb (length input) max_input) bytes (refused_line 69)

-- room for the longest output: a height, a text, and the words and line ends around them
abbrev pub output_bytes : ℕ
output_bytes = 32800

-- the bytes of the sample's text space, and the annotations and steps for which the judge has room
abbrev pub text_space : ℕ
text_space = 32768

abbrev pub room : ℕ
room = 512

-- the lines of a live set of a height, with its witness's text or the number that refuses it
abbrev pub live_lines : ℕ → Answer (List ℕ) → List ℕ
live_lines h (gives text) = alive_lines h text
live_lines h (refuses n) = refused_line n

-- a set that a number refuses, that has no witness, or whose witness is shown without name lists
abbrev pub sample_lines : List ℕ → Answer (Option Tree) → List ℕ
sample_lines set (gives none) = dead_line
sample_lines set (gives (some w)) = live_lines (levels w) (write_of set [] [] (encode_rows (rows_of w)) text_space)
sample_lines set (refuses n) = refused_line n

-- WHAT THE SAMPLE PROGRAM PRINTS: its row space holds 256 rows
unfoldable pub sample_output : List ℕ → List ℕ
sample_output input = within_input input (sample_lines input (unless (witness_check_of input (max_states * row_cells)) (witness (decode input))))

-- a judging that a number refuses, or its answer
abbrev pub judge_line : Answer Bool → List ℕ
judge_line (gives true) = yes_line
judge_line (gives false) = no_line
judge_line (refuses n) = refused_line n

-- the line for a set and the cells of a document's rows
abbrev pub rows_line : List ℕ → List ℕ → List ℕ
rows_line set cells = judge_line (unless (judge_check_of set cells (room * annotation_cells) (room * step_cells)) (accepts? (decode set) (decode_rows cells)))

-- the line for a set and what its text was read to
abbrev pub read_line : List ℕ → Reading (List Row) → List ℕ
read_line set (rows_read rows) = rows_line set (encode_rows rows)
read_line set (refused_at n p) = refusal_line n p

-- the line for a set and a text, with space for 1,024 rows and without name lists
abbrev pub judged_line : List ℕ → List ℕ → List ℕ
judged_line set text = read_line set (read_of set [] [] text (max_rows * row_cells))

-- WHAT THE JUDGING PROGRAM PRINTS: the set is the input up to the total that its header states, or all of it where that is shorter, and the text follows
unfoldable pub judge_output : List ℕ → List ℕ
judge_output input = within_input input (judged_line (take (stated_total input) input) (drop (stated_total input) input))
