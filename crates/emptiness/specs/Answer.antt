-- What the entry point answers and leaves in the row space (document 01, sections "Joining, demanding both, and the sample" and "Turned away, by place"). Assumes nothing.
use Rattle.std.specs.Prelude.{List, ◌++◌, ℕ, zero, suc, ◌*◌, ◌/◌, leb, length, drop, Result, None, Some}
use Rattle.std.specs.Prelude.{Option as Perhaps}
use Rattle.std.proofs.Math.Option.{Option, none, some}
use Rattle.model.specs.Refusal.{demand, and_after, Answer, unless}
use Rattle.model.specs.Tree.{Tree, levels}
use Rattle.model.specs.Automaton.{Automaton}
use Rattle.model.specs.Build.{rows_of}
use Rattle.model.specs.Witness.{witness, apart?}
use Rattle.automaton.specs.Stored.{decode}
use Rattle.automaton.specs.Check.{check_of}
use Rattle.document.specs.Rows.{row_cells, encode_rows}
use Rattle.base.specs.Refusals.{answer}
use Rattle.base.specs.declared.refusal.Refusal.{Refusal}
use Rattle.emptiness.specs.declared.Sample.{Sample}

-- for a sound set: 42 where the space holds fewer rows than there are states, then 41 where two states share a tag
unfoldable pub sample_check_of : Automaton → ℕ → ℕ
sample_check_of A space = demand (leb (length A.states) (space / row_cells)) 42 (demand (apart? A) 41 0)

-- the number that refuses the set (1 to 7) or the space (of so many cells), else 41, else 0
unfoldable pub witness_check_of : List ℕ → ℕ → ℕ
witness_check_of set space = and_after (check_of set) (sample_check_of (decode set) space)

-- the rows and the levels of a sample, where there is one
abbrev pub sampled : Perhaps Sample → Option (ℕ × ℕ)
sampled None = none
sampled (Some s) = some (s.rows, s.levels)

-- what an answer says: no witness where the set is dead, the rows and the levels of one where it is live, or a refusal
abbrev pub emptiness_answer : Result (Perhaps Sample) Refusal → Answer (Option (ℕ × ℕ))
emptiness_answer = answer sampled

-- how many rows and levels a witness has
abbrev pub shape_of : Option Tree → Option (ℕ × ℕ)
shape_of none = none
shape_of (some w) = some (length (rows_of w), levels w)

-- What a stored set and a space of so many cells give.
abbrev pub emptiness_of : List ℕ → ℕ → Answer (Option (ℕ × ℕ))
emptiness_of set space = unless (witness_check_of set space) (shape_of (witness (decode set)))

-- the space afterwards: the witness's rows at the front and the rest as it was, or all of it as it was
abbrev pub space_of : ℕ → Option Tree → List ℕ → List ℕ
space_of zero none cells = cells
space_of zero (some w) cells = encode_rows (rows_of w) ++ drop (length (rows_of w) * row_cells) cells
space_of (suc n) o cells = cells

-- And what lies in the space afterwards.
abbrev pub space_after : List ℕ → List ℕ → List ℕ
space_after set cells = space_of (witness_check_of set (length cells)) (witness (decode set)) cells
