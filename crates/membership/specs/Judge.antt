-- The judge: the refusals in their order, then the decision, and what lies in the lent spaces afterwards (document 01, sections "Runs" and "Turned away, by place"). Assumes nothing.
use Rattle.std.specs.Prelude.{◌≡◌, Option, Some, None, Result, Ok, Err, is_some, List, Bool, true, ◌||◌, cond, ℕ, ◌*◌, ◌/◌, ◌<◌, ◌≤◌, eqb, leb, length, take, drop, replicate}
use Rattle.model.specs.Refusal.{demand, and_after, Answer, unless}
use Rattle.model.specs.Automaton.{forgets_nothing?}
use Rattle.model.specs.Table.{tree_of}
use Rattle.model.specs.Run.{Accepts}
use Rattle.model.specs.Annotation.{annotations, accepts?}
use Rattle.model.specs.Papers.{Recognizes, rigid_of, papers?}
use Rattle.model.specs.Isolating.{Isolates, isolating_of}
use Rattle.base.specs.Refusals.{answer}
use Rattle.base.specs.declared.refusal.Refusal.{Refusal}
use Rattle.automaton.specs.Stored.{decode}
use Rattle.document.specs.Rows.{decode_rows}
use Rattle.document.specs.Check.{document_check_of}
use Rattle.runs.specs.Steps.{step_cells}
use Rattle.runs.specs.Check.{check_run_of}
use Rattle.membership.specs.Cells.{room_of}

-- The number that refuses the inputs, 0 for none, with so many cells in the work and the run space.
unfoldable pub judge_check_of : List ℕ → List ℕ → ℕ → ℕ → ℕ
judge_check_of set cells work run =
    and_after (document_check_of set cells)
    (demand (leb (room_of work) (run / step_cells)) 32
    (demand (leb (length (annotations (decode set) (decode_rows cells))) (room_of work)) 31 0))

-- what the judge answers: whether the set lets the document in, or refused with a number
abbrev pub judge_answer : Result (Option ℕ) Refusal → Answer Bool
judge_answer = answer is_some

-- a judging passes 32 where no number or 31 refuses it: then all of the work space is zeros, else it is untouched
abbrev pub work_after : ℕ → List ℕ → List ℕ
work_after n work = cond (eqb n 0 || eqb n 31) (replicate (length work) 0) work

-- The run that a yes hands back, of s steps: which one is free.
pub record HandedBack (set cells before after : List ℕ) (s : ℕ) : Type 0 where
  pub some : 0 < s
  pub few : s ≤ length (annotations (decode set) (decode_rows cells))
  pub passes : check_run_of set cells (take (s * step_cells) after) ≡ 0
  pub rest : drop (s * step_cells) after ≡ drop (s * step_cells) before

-- what the run space holds after an answer: after a yes a run at its front, after any other what it held before
abbrev pub RunAfter : List ℕ → List ℕ → List ℕ → List ℕ → Result (Option ℕ) Refusal → Type 0
RunAfter set cells before after (Ok (Some s)) = HandedBack set cells before after s
RunAfter set cells before after (Ok None) = after ≡ before
RunAfter set cells before after (Err w) = after ≡ before

-- What a judging with the answer r leaves, from the spaces work and run to work' and run'.
pub record Judging (set cells work run : List ℕ) (r : Result (Option ℕ) Refusal) (work' run' : List ℕ) : Type 0 where
  pub answer : judge_answer r ≡ unless (judge_check_of set cells (length work) (length run)) (accepts? (decode set) (decode_rows cells))
  pub cleared : work' ≡ work_after (judge_check_of set cells (length work) (length run)) work
  pub handed : RunAfter set cells run run' r
  pub accepted : (s : ℕ) → r ≡ Ok (Some s) → Accepts (decode set) (tree_of (decode_rows cells))
  pub rejected : r ≡ Ok None → Accepts (decode set) (tree_of (decode_rows cells)) → ⊥
  -- of a set with one state to a tag and one tag to a state, a yes is acceptance by the isolating rigid tree automaton of source document 000
  pub isolates : papers? (decode set) ≡ true → (s : ℕ) → r ≡ Ok (Some s) → Isolates (isolating_of (decode set)) (tree_of (decode_rows cells))
  -- and a no its opposite
  pub isolates_not : papers? (decode set) ≡ true → r ≡ Ok None → Isolates (isolating_of (decode set)) (tree_of (decode_rows cells)) → ⊥
  -- and where no rule forgets, a yes is acceptance by the rigid tree automaton of source document 004
  pub recognized : papers? (decode set) ≡ true → forgets_nothing? (decode set) ≡ true → (s : ℕ) → r ≡ Ok (Some s) → Recognizes (rigid_of (decode set)) (tree_of (decode_rows cells))
  -- and a no its opposite
  pub unrecognized : papers? (decode set) ≡ true → forgets_nothing? (decode set) ≡ true → r ≡ Ok None → Recognizes (rigid_of (decode set)) (tree_of (decode_rows cells)) → ⊥
