-- The places in their order: a set or lists that are refused decide, else the text does. Assumes nothing.
use mathlib.Core.Path.{◌≡◌, refl, sym, ap, ◌∙◌}
use mathlib.Core.List.{List}
use Prim.Native.Nat.{ℕ, zero, suc, ◌*◌, ◌/◌, ◌<◌, ◌≤◌, min}
use native.Mathlib.Omega.{arith}
use lib.ListN.{length}
use Rattle.model.specs.Limits.{max_rows, max_symbols}
use Rattle.model.specs.Refusal.{unless}
use Rattle.model.specs.Automaton.{arity_of}
use Rattle.model.specs.Table.{Row}
use Rattle.automaton.specs.Stored.{decode}
use Rattle.automaton.specs.Check.{check_of}
use Rattle.automaton.specs.Answer.{check_answer}
use Rattle.automaton.proofs.Sound.{sound_decode}
use Rattle.automaton.proofs.Verdict.{answer_is, refused_some}
use Rattle.document.specs.Rows.{row_cells}
use Rattle.names.specs.Check.{names_check_of}
use Rattle.names.specs.Table.{cell_bytes, table_of}
use Rattle.names.proofs.Shown.{table_finds}
use Rattle.term.specs.State.{setting_of}
use Rattle.term.specs.Read.{Reading, refused_at, reading_map, read_text, setting_for, unless_refused, read_of, read_answer, space_after, Answers}
use Rattle.std.specs.Prelude.{Result, Err}
use Rattle.base.specs.Refusals.{number, refused_by}
use Rattle.base.specs.declared.refusal.Refusal.{Refusal}
use Rattle.base.specs.declared.refusal.TextRefusal.{TextRefusal}

stopped : (n m : ℕ) (v : Reading (List Row)) → n ≡ m → 0 < m → unless_refused n v ≡ refused_at m 0
stopped zero m v e l = absurd (omega arith)
stopped (suc n) m v e l = ap (λ k. refused_at k 0) e

pub passed : (n : ℕ) (v : Reading (List Row)) → n ≡ 0 → unless_refused n v ≡ v
passed n v e = ap (λ k. unless_refused k v) e

-- the number of a check that refused
pub set_number : (r : Result (Unit {0}) Refusal) (n : ℕ) → check_answer r ≡ unless n tt → (why : Refusal) → r ≡ Err why → (n ≡ number why) × (0 < number why)
set_number r n e why h = (sym (answer_is r n e) ∙ ap refused_by h, refused_some r n e why h)

-- an answer with its space, of a reading that is another's
answers_of : (v w : Reading (List Row)) (r : Result ℕ TextRefusal) (old new : List ℕ) → v ≡ w → Answers w r old new → (read_answer r ≡ reading_map length v) × (new ≡ space_after v old)
answers_of v w r old new e h = (h.answer ∙ ap (reading_map length) (sym e), h.space ∙ ap (λ x. space_after x old) (sym e))

module _ (set site built_in text old : List ℕ) where
  pub set_refused : (why : Refusal) → (check_of set ≡ number why) × (0 < number why) → (r : Result ℕ TextRefusal) → r ≡ Err (record { refusal = why; place = 0 }) → (read_answer r ≡ reading_map length (read_of set site built_in text (length old))) × (old ≡ space_after (read_of set site built_in text (length old)) old)
  unfolding read_of
  set_refused why (e, l) r is = answers_of _ (refused_at (number why) 0) r old old (stopped (check_of set) (number why) _ e l) (record { answer = ap read_answer is; space = refl })

  module _ (sound : check_of set ≡ 0) (symbols : ℕ) (counted : symbols ≡ length (decode set).arities) where
    after_set : read_of set site built_in text (length old) ≡ unless_refused (names_check_of symbols site built_in) (read_text (setting_for set site built_in (length old)) text)
    unfolding read_of
    after_set =
        passed (check_of set) _ sound
        ∙ ap (λ n. unless_refused (names_check_of n site built_in) (read_text (setting_for set site built_in (length old)) text)) (sym counted)

    pub names_refused : (why : Refusal) → (names_check_of symbols site built_in ≡ number why) × (0 < number why) → (r : Result ℕ TextRefusal) → r ≡ Err (record { refusal = why; place = 0 }) → (read_answer r ≡ reading_map length (read_of set site built_in text (length old))) × (old ≡ space_after (read_of set site built_in text (length old)) old)
    names_refused why (e, l) r is =
        answers_of _ (refused_at (number why) 0) r old old (after_set ∙ stopped (names_check_of symbols site built_in) (number why) _ e l) (record { answer = ap read_answer is; space = refl })

    module _ (distinct : names_check_of symbols site built_in ≡ 0) (empty names : List ℕ) (filled : names ≡ table_of site built_in empty) (room : max_symbols * cell_bytes ≤ length empty) where
      -- a table of the names shown finds what the lists say
      same_setting : setting_of set names symbols (min max_rows (length old / row_cells)) ≡ setting_for set site built_in (length old)
      same_setting =
          let few = (sound_decode set sound).few_symbols in
          let n = length (decode set).arities in
          let d : names_check_of n site built_in ≡ 0 = ap (λ k. names_check_of k site built_in) (sym counted) ∙ distinct in
          (λ i. setting_of set (filled i) (counted i) (min max_rows (length old / row_cells)))
          ∙ (λ i. record { symbol = λ bytes. table_finds n site built_in d few empty room bytes i; arity = arity_of (decode set); limit = min max_rows (length old / row_cells) })

      pub text_answers : (r : Result ℕ TextRefusal) (new : List ℕ) → Answers (read_text (setting_of set names symbols (min max_rows (length old / row_cells))) text) r old new
          → (read_answer r ≡ reading_map length (read_of set site built_in text (length old))) × (new ≡ space_after (read_of set site built_in text (length old)) old)
      text_answers r new h =
          answers_of _ (read_text (setting_of set names symbols (min max_rows (length old / row_cells))) text) r old new
          (after_set ∙ passed (names_check_of symbols site built_in) _ distinct ∙ ap (λ S. read_text S text) (sym same_setting)) h
