-- Every entry point answers for one of two stored sets that stand for one automaton as it answers for the other, and leaves the same in the lent spaces, and
-- the programs print the same; so it is for a set and the set moved to the other form (`Moved-same` of `forms`). Union and product also go by whether the forms have a place for what rules forget. Assumes nothing.
use mathlib.Core.Bool.{false}
use mathlib.Core.Path.{◌≡◌, refl, sym, ap, ◌∙◌, subst}
use mathlib.Core.List.{List, [], ◌++◌}
use mathlib.Core.Option.{Option, none, some}
use Prim.Native.Nat.{ℕ, ◌+◌, ◌*◌, ◌≤◌}
use native.Mathlib.Omega.{arith}
use borrow.Author.Tests.{le-leb}
use lib.ListN.{length, get_or, take, drop, get_or-append}
use lib.Seq.{take_at, drop_at}
use Rattle.model.specs.Automaton.{Automaton}
use Rattle.model.specs.Boolean.{union, product}
use Rattle.model.specs.Limits.{max_states, max_rows}
use Rattle.model.specs.Tree.{Tree, levels}
use Rattle.model.specs.Table.{Row}
use Rattle.model.specs.Build.{rows_of}
use Rattle.model.specs.Witness.{witness}
use Rattle.model.specs.Refusal.{Answer, gives, refuses, unless}
use Rattle.model.specs.Annotation.{annotations, accepts?}
use Rattle.automaton.specs.declared.Form.{Form}
use Rattle.automaton.specs.declared.Form.TheVariants.{Narrow, Wide}
use Rattle.automaton.specs.Form.{isolating?}
use Rattle.automaton.specs.Stored.{word, stated_total, form_of, decode}
use Rattle.automaton.specs.Check.{check_of}
use Rattle.automaton.specs.Answer.{Stores}
use Rattle.document.specs.Rows.{row_cells, decode_rows, encode_rows}
use Rattle.document.specs.Check.{document_check_of}
use Rattle.runs.specs.Steps.{step_cells}
use Rattle.runs.specs.Check.{check_run_of}
use Rattle.membership.specs.Judge.{judge_check_of, work_after, Judging, RunAfter}
use Rattle.std.specs.Prelude.{Result, Ok, Err, Some, None, Option as Maybe}
use Rattle.base.specs.declared.refusal.Refusal.{Refusal}
use Rattle.boolean.specs.Combine.{result_form, combine_check_of}
use Rattle.boolean.specs.Answer.{combined_of, combined_space}
use Rattle.boolean.proofs.Meaning.{union_stored, product_stored}
use Rattle.emptiness.specs.Answer.{witness_check_of, emptiness_of}
use Rattle.emptiness.specs.Answer.{space_after as witness_space}
use Rattle.term.specs.Read.{Reading, rows_read, refused_at, read_of}
use Rattle.spelling.specs.Write.{write_of}
use Rattle.console.specs.Output.{max_input, text_space, live_lines, sample_lines, sample_output, rows_line, read_line, judged_line, judge_output}
use Rattle.automaton.proofs.Passes.{Passes, passes}
use Rattle.forms.specs.Move.{moved_of, SameSet}
use Rattle.forms.proofs.InForm.{in_plain_form}
use Rattle.forms.proofs.Meaning.{moved, moved_stores, moved_sound, moved_from, moved_form}

-- a set and a text behind it are told apart by the total that the header states
total_behind : (s : List ℕ) → Passes s → (text : List ℕ) → stated_total (s ++ text) ≡ length s
unfolding word
total_behind s p text =
    let n = p.header in
    ap (λ (x : ℕ). x + 256 * get_or (s ++ text) 15 0) (get_or-append s text 0 14 (omega arith))
    ∙ ap (λ (x : ℕ). get_or s 14 0 + 256 * x) (get_or-append s text 0 15 (omega arith))
    ∙ p.offsets.total
    ∙ sym p.offsets.whole

verdict : (s : List ℕ) → check_of s ≡ 0 → (text : List ℕ) → length (s ++ text) ≤ max_input → judge_output (s ++ text) ≡ judged_line s text
unfolding judge_output
verdict s h text l =
    rw (le-leb (length (s ++ text)) max_input l, total_behind s (passes s h) text)
    (ap (λ (set : List ℕ). judged_line set (drop (length s) (s ++ text))) (take_at s text (length s) refl)
    ∙ ap (judged_line s) (drop_at s text (length s) refl))

module _ (s s' : List ℕ) (m : SameSet s s') where
  -- the checks of a table and of a run
  pub same_document : (cells : List ℕ) → document_check_of s cells ≡ document_check_of s' cells
  same_document cells = rw (m.checked, m.decoded)

  pub same_run : (cells run : List ℕ) → check_run_of s cells run ≡ check_run_of s' cells run
  same_run cells run = rw (m.checked, m.decoded)

  -- the judge: what is answered by the one may be answered by the other, with the same run
  pub same_judge : (cells : List ℕ) (work run : ℕ) → judge_check_of s cells work run ≡ judge_check_of s' cells work run
  unfolding judge_check_of
  same_judge cells work run = rw (m.checked, m.decoded)

  handed_alike : (cells before after : List ℕ) (r : Result (Maybe ℕ) Refusal) → RunAfter s cells before after r → RunAfter s' cells before after r
  handed_alike cells before after (Ok (Some k)) h = record {
    some = h.some;
    few = subst (λ (A : Automaton). k ≤ length (annotations A (decode_rows cells))) m.decoded h.few;
    passes = sym (same_run cells (take (k * step_cells) after)) ∙ h.passes;
    rest = h.rest;
  }
  handed_alike cells before after (Ok None) h = h
  handed_alike cells before after (Err w) h = h

  pub same_judging : (cells work run : List ℕ) (r : Result (Maybe ℕ) Refusal) (work' run' : List ℕ) → Judging s cells work run r work' run' → Judging s' cells work run r work' run'
  same_judging cells work run r work' run' j = record {
    answer =
        j.answer
        ∙ ap (λ (n : ℕ). unless n (accepts? (decode s) (decode_rows cells))) (same_judge cells (length work) (length run))
        ∙ ap (λ (A : Automaton). unless (judge_check_of s' cells (length work) (length run)) (accepts? A (decode_rows cells))) m.decoded;
    cleared = j.cleared ∙ ap (λ (n : ℕ). work_after n work) (same_judge cells (length work) (length run));
    handed = handed_alike cells run run' r j.handed;
    accepted = rw (← m.decoded) j.accepted;
    rejected = rw (← m.decoded) j.rejected;
    isolates = rw (← m.decoded) j.isolates;
    isolates_not = rw (← m.decoded) j.isolates_not;
    recognized = rw (← m.decoded) j.recognized;
    unrecognized = rw (← m.decoded) j.unrecognized;
  }

  -- emptiness
  pub same_emptiness : (space : ℕ) → emptiness_of s space ≡ emptiness_of s' space
  unfolding witness_check_of
  same_emptiness space = rw (m.checked, m.decoded)

  pub same_witness : (cells : List ℕ) → witness_space s cells ≡ witness_space s' cells
  unfolding witness_check_of
  same_witness cells = rw (m.checked, m.decoded)

  -- the reader and the writer of term text, whose spaces follow from what they answer
  pub same_reading : (site built_in text : List ℕ) (space : ℕ) → read_of s site built_in text space ≡ read_of s' site built_in text space
  unfolding read_of
  same_reading site built_in text space = rw (m.checked, m.decoded)

  pub same_writing : (site built_in cells : List ℕ) (space : ℕ) → write_of s site built_in cells space ≡ write_of s' site built_in cells space
  unfolding write_of
  same_writing site built_in cells space = rw (m.checked, m.decoded)

  -- what the programs print, for inputs that are not too long: the sample of a set ..
  sample_lines_lem : (found : Answer (Option Tree)) → sample_lines s found ≡ sample_lines s' found
  sample_lines_lem (gives none) = refl
  sample_lines_lem (gives (some w)) = ap (live_lines (levels w)) (same_writing [] [] (encode_rows (rows_of w)) text_space)
  sample_lines_lem (refuses n) = refl

  same_found : (space : ℕ) → unless (witness_check_of s space) (witness (decode s)) ≡ unless (witness_check_of s' space) (witness (decode s'))
  unfolding witness_check_of
  same_found space = rw (m.checked, m.decoded)

  pub same_sample : length s ≤ max_input → length s' ≤ max_input → sample_output s ≡ sample_output s'
  unfolding sample_output
  same_sample l l' =
      rw (le-leb (length s) max_input l, le-leb (length s') max_input l')
      (ap (sample_lines s) (same_found (max_states * row_cells)) ∙ sample_lines_lem (unless (witness_check_of s' (max_states * row_cells)) (witness (decode s'))))

  rows_line_lem : (cells : List ℕ) → rows_line s cells ≡ rows_line s' cells
  unfolding judge_check_of
  rows_line_lem cells = rw (m.checked, m.decoded)

  read_line_lem : (r : Reading (List Row)) → read_line s r ≡ read_line s' r
  read_line_lem (rows_read rows) = rows_line_lem (encode_rows rows)
  read_line_lem (refused_at n p) = refl

  same_line : (text : List ℕ) → judged_line s text ≡ judged_line s' text
  same_line text = ap (read_line s) (same_reading [] [] text (max_rows * row_cells)) ∙ read_line_lem (read_of s' [] [] text (max_rows * row_cells))

  -- .. and the verdict on a text directly behind a sound set
  pub same_verdict : check_of s ≡ 0 → (text : List ℕ) → length (s ++ text) ≤ max_input → length (s' ++ text) ≤ max_input → judge_output (s ++ text) ≡ judge_output (s' ++ text)
  same_verdict h text l l' = verdict s h text l ∙ same_line text ∙ sym (verdict s' (sym m.checked ∙ h) text l')

-- union and product of two sets, each in a form with a place for what rules forget where the other is
module _ (result : Automaton → Automaton → Automaton) (s s' t t' : List ℕ) (m : SameSet s s') (n : SameSet t t') (p : isolating? (form_of s) ≡ isolating? (form_of s')) (q : isolating? (form_of t) ≡ isolating? (form_of t')) where
  pub same_combined : (space : List ℕ) → combined_of result s t space ≡ combined_of result s' t' space
  unfolding combine_check_of result_form
  same_combined space = rw (m.checked, m.decoded, n.checked, n.decoded, p, q)

  pub same_result : (space : List ℕ) → combined_space result s t space ≡ combined_space result s' t' space
  unfolding combine_check_of result_form
  same_result space = rw (m.checked, m.decoded, n.checked, n.decoded, p, q)

-- so it is for a set and the set moved between the forms without such a place, by either move of states
module _ (from to : Form) (plain : isolating? from ≡ false) (plain' : isolating? to ≡ false) (set space : List ℕ) (n : ℕ) (e : moved_of from to set space ≡ gives n) where
  pub same_place : isolating? (form_of set) ≡ isolating? (form_of (moved from to set space n e))
  same_place =
      in_plain_form from set (moved_sound from to set space n e) (moved_from from to set space n e) plain
      ∙ sym (in_plain_form to (moved from to set space n e) (moved_stores from to set space n e).sound (moved_form from to set space n e) plain')

pub widened_place : (set space : List ℕ) (n : ℕ) (e : moved_of Narrow Wide set space ≡ gives n) → isolating? (form_of set) ≡ isolating? (form_of (moved Narrow Wide set space n e))
widened_place = same_place Narrow Wide refl refl

pub narrowed_place : (set space : List ℕ) (n : ℕ) (e : moved_of Wide Narrow set space ≡ gives n) → isolating? (form_of set) ≡ isolating? (form_of (moved Wide Narrow set space n e))
narrowed_place = same_place Wide Narrow refl refl

-- Whatever the forms, what union and product write (`union_stored` and `product_stored` of `boolean`) stands for one automaton.
module _ (result : Automaton → Automaton → Automaton) (stored : (first second space : List ℕ) (n : ℕ) → combined_of result first second space ≡ gives n → Stores (take n (combined_space result first second space)) (result (decode first) (decode second))) (s s' t t' : List ℕ) (m : SameSet s s') (n : SameSet t t') where
  pub same_stored : (space space' : List ℕ) (k k' : ℕ) → combined_of result s t space ≡ gives k → combined_of result s' t' space' ≡ gives k' → SameSet (take k (combined_space result s t space)) (take k' (combined_space result s' t' space'))
  same_stored space space' k k' e e' =
      let one = stored s t space k e in
      let two = stored s' t' space' k' e' in
      record { checked = one.sound ∙ sym two.sound; decoded = one.decoded ∙ ap (λ (A : Automaton). result A (decode t)) m.decoded ∙ ap (result (decode s')) n.decoded ∙ sym two.decoded }

pub same_union : (s s' t t' : List ℕ) (m : SameSet s s') (n : SameSet t t') (space space' : List ℕ) (k k' : ℕ) → combined_of union s t space ≡ gives k → combined_of union s' t' space' ≡ gives k' → SameSet (take k (combined_space union s t space)) (take k' (combined_space union s' t' space'))
same_union = same_stored union union_stored

pub same_product : (s s' t t' : List ℕ) (m : SameSet s s') (n : SameSet t t') (space space' : List ℕ) (k k' : ℕ) → combined_of product s t space ≡ gives k → combined_of product s' t' space' ≡ gives k' → SameSet (take k (combined_space product s t space)) (take k' (combined_space product s' t' space'))
same_product = same_stored product product_stored
