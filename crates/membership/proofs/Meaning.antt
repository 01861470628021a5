-- The judge's answers, each with its number, and what the decision means. Assumes nothing.
use mathlib.Core.Path.{◌≡◌, refl, sym, ap, ◌∙◌}
use mathlib.Core.Logic.{◌↔◌}
use mathlib.Core.List.{List, Memᴰ as In}
use mathlib.Core.Bool.{Bool, true, false, ◌||◌, cond}
use Prim.Native.Nat.{ℕ, zero, suc, ◌*◌, ◌/◌, ◌<◌, ◌≤◌}
use native.Mathlib.Omega.{arith}
use native.Mathlib.Nat.{div-mul-le_self}
use borrow.Author.Rules.{rules}
use borrow.Author.Tests.{le-leb, lt-leb, leb-false, ne_eqb}
use lib.Dec.{leb, lit<}
use lib.ListN.{length, take, drop, replicate}
use Rattle.std.specs.Prelude.{Option, Some, None, Result, Ok, Err, is_some}
use Rattle.base.specs.Refusals.{number, refused_by}
use Rattle.base.specs.declared.refusal.Refusal.{Refusal}
use Rattle.base.specs.declared.refusal.Refusal.TheVariants.{NoRoom, RunSpace}
use Rattle.base.proofs.Refusing.{some_number, answered}
use lib.Seq.{take_at, drop_at}
use Rattle.model.specs.Limits.{max_steps}
use Rattle.model.specs.Refusal.{demand, and_after, Answer, gives, unless}
use Rattle.model.specs.Automaton.{OneRule, forgets_nothing?}
use Rattle.model.specs.Sound.{Sound}
use Rattle.model.specs.Table.{tree_of, SoundTable}
use Rattle.model.specs.Run.{Accepts}
use Rattle.model.specs.Annotation.{Annotation, Derivable, annotations, accepts?}
use Rattle.model.specs.Papers.{Recognizes, rigid_of, papers?}
use Rattle.model.specs.Isolating.{Isolates, isolating_of}
use Rattle.model.proofs.Tab.{length_tab}
use Rattle.model.proofs.Count.{NoRepeats}
use Rattle.model.proofs.Listed.{annotation_count}
use Rattle.model.proofs.Decides.{decides}
use Rattle.model.proofs.Order.{ascending_once}
use Rattle.model.proofs.Forgetting.{nothing_exactly}
use Rattle.model.proofs.Papers.{papers_document, papers_exactly}
use Rattle.model.proofs.Isolating.{isolating_document}
use Rattle.automaton.specs.Stored.{decode}
use Rattle.automaton.specs.Check.{check_of}
use Rattle.automaton.specs.Answer.{check_answer}
use Rattle.automaton.proofs.Passes.{check_most}
use Rattle.automaton.proofs.Verdict.{answer_is, passed_zero}
use Rattle.document.specs.Rows.{decode_rows}
use Rattle.document.specs.Check.{form_check_of, distinct_check_of, used_check_of, levels_check_of, table_check_of, document_check_of}
use Rattle.document.proofs.Refusals.{both_passed}
use Rattle.document.proofs.Sound.{sound_document}
use Rattle.runs.specs.Steps.{step_cells, step_in, decode_steps, encode_steps}
use Rattle.runs.specs.Check.{run_check_of, check_run_of}
use Rattle.runs.proofs.Encoding.{length_encode}
use Rattle.runs.proofs.Meaning.{run_passes}
use Rattle.membership.specs.Cells.{annotation_cells, room_of}
use Rattle.membership.specs.Annotated.{AllIn}
use Rattle.membership.specs.Handed.{RunWritten}
use Rattle.membership.specs.Judge.{judge_check_of, work_after, Judging}
use Rattle.membership.proofs.Adding.{length_annotations}
use Rattle.membership.proofs.Annotating.{room_fits}

demand_not : (b : Bool) (n rest : ℕ) → b ≡ false → demand b n rest ≡ n
unfolding demand
demand_not b n rest e = rw e refl

demand_so : (b : Bool) (n rest : ℕ) → b ≡ true → demand b n rest ≡ rest
unfolding demand
demand_so b n rest e = rw e refl

refused_yes : (w : Refusal) (s : ℕ) → ◌≡◌ {A = Result (Option ℕ) Refusal} (Err w) (Ok (Some s)) → ⊥
refused_yes w s e = let z : ◌≡◌ {A = ℕ} 0 1 = cc in omega arith

refused_no : (w : Refusal) → ◌≡◌ {A = Result (Option ℕ) Refusal} (Err w) (Ok None) → ⊥
refused_no w e = let z : ◌≡◌ {A = ℕ} 0 1 = cc in omega arith

no_yes : (s : ℕ) → ◌≡◌ {A = Result (Option ℕ) Refusal} (Ok None) (Ok (Some s)) → ⊥
no_yes s e = let z : ◌≡◌ {A = ℕ} 0 1 = cc in omega arith

yes_no : (s : ℕ) → ◌≡◌ {A = Result (Option ℕ) Refusal} (Ok (Some s)) (Ok None) → ⊥
yes_no s e = let z : ◌≡◌ {A = ℕ} 0 1 = cc in omega arith

gives_apart : ◌≡◌ {A = Answer Bool} (gives true) (gives false) → ⊥
gives_apart e = let z : ◌≡◌ {A = ℕ} 0 1 = cc in omega arith

true_false : {B : Type 0} → true ≡ false → B
true_false e = let z : ◌≡◌ {A = ℕ} 0 1 = cc in let w : ⊥ = omega arith in absurd w

both_zero : (a b : ℕ) → a ≡ 0 → b ≡ 0 → and_after a b ≡ 0
unfolding and_after
both_zero a b ea eb = ap (λ k. and_after k b) ea ∙ eb

-- a refusal leaves the run space as it was
refused : (set cells work run : List ℕ) (w : Refusal) → judge_check_of set cells (length work) (length run) ≡ number w → (work' : List ℕ) → work' ≡ work_after (number w) work → Judging set cells work run (Err w) work' run
refused set cells work run w e work' c =
    record {
      answer = answered (is_some {T = ℕ}) (accepts? (decode set) (decode_rows cells)) (Err w) (judge_check_of set cells (length work) (length run)) (λ a h. let z : ◌≡◌ {A = ℕ} 0 1 = cc in absurd (omega arith)) (sym e);
      cleared = c ∙ sym (ap (λ k. work_after k work) e);
      handed = refl;
      accepted = λ s q. absurd (refused_yes w s q);
      rejected = λ q. absurd (refused_no w q);
      isolates = λ _ s q. absurd (refused_yes w s q);
      isolates_not = λ _ q. absurd (refused_no w q);
      recognized = λ _ _ s q. absurd (refused_yes w s q);
      unrecognized = λ _ _ q. absurd (refused_no w q);
    }

-- a sound set and table
module _ (set cells : List ℕ) (passed : document_check_of set cells ≡ 0) where
  sound : Sound (decode set) × SoundTable (decode set) (decode_rows cells)
  sound = sound_document set cells passed

  pub set_passed : check_of set ≡ 0
  set_passed = (both_passed (check_of set) (table_check_of (decode set) cells) passed).0

  pub table_passed : SoundTable (decode set) (decode_rows cells)
  table_passed = sound.1

  once : OneRule (decode set)
  once = ascending_once (decode set) sound.0.ascending

  -- the decision means acceptance
  pub decided : (accepts? (decode set) (decode_rows cells) ≡ true) ↔ Accepts (decode set) (tree_of (decode_rows cells))
  decided = decides (decode set) (decode_rows cells) table_passed.some_row table_passed.lower once table_passed.distinct

  -- and acceptance, of a set with one state to a tag and one tag to a state, is that of the papers
  isolating : papers? (decode set) ≡ true → Accepts (decode set) (tree_of (decode_rows cells)) ↔ Isolates (isolating_of (decode set)) (tree_of (decode_rows cells))
  isolating p = isolating_document (decode set) sound.0.wellformed once ((papers_exactly (decode set)).0 p) (decode_rows cells) table_passed

  recognizing : papers? (decode set) ≡ true → forgets_nothing? (decode set) ≡ true → Accepts (decode set) (tree_of (decode_rows cells)) ↔ Recognizes (rigid_of (decode set)) (tree_of (decode_rows cells))
  recognizing p f = papers_document (decode set) sound.0.wellformed ((papers_exactly (decode set)).0 p) ((nothing_exactly (decode set)).0 f) (decode_rows cells) table_passed

module _ (set cells work run : List ℕ) (passed : document_check_of set cells ≡ 0) where
  judge_number : judge_check_of set cells (length work) (length run) ≡ demand (leb (room_of (length work)) (length run / step_cells)) 32 (demand (leb (length (annotations (decode set) (decode_rows cells))) (room_of (length work))) 31 0)
  unfolding judge_check_of and_after
  judge_number = ap (λ k. and_after k (demand (leb (room_of (length work)) (length run / step_cells)) 32 (demand (leb (length (annotations (decode set) (decode_rows cells))) (room_of (length work))) 31 0))) passed

  module _ (room count : ℕ) (er : room ≡ room_of (length work)) (ec : count ≡ length (decode_steps run)) where
    count_is : count ≡ length run / step_cells
    count_is = ec ∙ length_tab (length run / step_cells) (step_in run)

    -- 32: the run space holds fewer steps than the room
    pub too_short : count < room → Judging set cells work run (Err RunSpace) work run
    too_short l = refused set cells work run RunSpace (judge_number ∙ demand_not _ 32 _ (lt-leb (room_of (length work)) (length run / step_cells) (let e = count_is in omega arith))) work refl

    module _ (enough : room ≤ count) (work₁ : List ℕ) (long : length work₁ ≡ length work) where
      long_enough : judge_check_of set cells (length work) (length run) ≡ demand (leb (length (annotations (decode set) (decode_rows cells))) (room_of (length work))) 31 0
      long_enough = judge_number ∙ demand_so _ 32 _ (le-leb (room_of (length work)) (length run / step_cells) (let e = count_is in omega arith))

      -- 31: more distinct annotations than the room
      pub too_many : (work' : List ℕ) → room_of (length work) < length (annotations (decode set) (decode_rows cells)) → work' ≡ replicate (length work₁) 0 → Judging set cells work run (Err NoRoom) work' run
      too_many work' l c =
          refused set cells work run NoRoom (long_enough ∙ demand_not _ 31 0 (lt-leb (length (annotations (decode set) (decode_rows cells))) (room_of (length work)) l)) work'
          (c ∙ ap (λ k. replicate k 0) long)

      module _ (n : ℕ) (annotated : AllIn (decode set) (decode_rows cells) (room_of (length work)) work₁ n) where
        -- annotations that fit the room fit the spaces
        pub spaces : (n ≤ max_steps) × (n * annotation_cells ≤ length work₁) × (n * step_cells ≤ length run)
        spaces =
            let fits = annotated.count in
            let (few, cells) = room_fits (length work) in
            let e = count_is in
            let whole = div-mul-le_self (length run) step_cells in
            (omega arith, omega arith, omega arith)

        module _ (work₂ work' run' : List ℕ) (long₂ : length work₂ ≡ length work₁) (c : work' ≡ replicate (length work₂) 0) where
          n_is : length (annotations (decode set) (decode_rows cells)) ≡ n
          n_is = ap length (sym annotated.held) ∙ length_annotations (decode set).tags work₁ n

          none : judge_check_of set cells (length work) (length run) ≡ 0
          none = long_enough ∙ demand_so _ 31 0 (le-leb (length (annotations (decode set) (decode_rows cells))) (room_of (length work)) (let e = n_is in let f = annotated.count in omega arith))

          zeros : work' ≡ work_after (judge_check_of set cells (length work) (length run)) work
          zeros = c ∙ ap (λ k. replicate k 0) (long₂ ∙ long) ∙ sym (ap (λ k. work_after k work) none)

          pub says_no : RunWritten (decode set) (decode_rows cells) n run run' None → Judging set cells work run (Ok None) work' run'
          unfolding unless
          says_no (no_run, same) =
              record {
                answer = sym (λ x. unless (none x) (no_run x));
                cleared = zeros;
                handed = same;
                accepted = λ s q. absurd (no_yes s q);
                rejected = λ _ a. true_false (sym ((decided set cells passed).1 a) ∙ no_run);
                isolates = λ _ s q. absurd (no_yes s q);
                isolates_not = λ p _ m. true_false (sym ((decided set cells passed).1 ((isolating set cells passed p).1 m)) ∙ no_run);
                recognized = λ _ _ s q. absurd (no_yes s q);
                unrecognized = λ p f _ m. true_false (sym ((decided set cells passed).1 ((recognizing set cells passed p f).1 m)) ∙ no_run);
              }

          pub says_yes : (s : ℕ) → RunWritten (decode set) (decode_rows cells) n run run' (Some s) → Judging set cells work run (Ok (Some s)) work' run'
          unfolding unless
          says_yes s (some, few, has_run, front) =
              let length_front : length (encode_steps front.run) ≡ s * step_cells = let e = length_encode front.run in let q = front.count in omega arith in
              let taken : take (s * step_cells) run' ≡ encode_steps front.run = ap (take (s * step_cells)) front.cells ∙ take_at (encode_steps front.run) (drop (s * step_cells) run) (s * step_cells) length_front in
              record {
                answer = sym (λ x. unless (none x) (has_run x));
                cleared = zeros;
                handed = record {
                  some = some;
                  few = let e = n_is in omega arith;
                  passes = ap (check_run_of set cells) taken ∙ both_zero (document_check_of set cells) (run_check_of (decode set) (decode_rows cells) (encode_steps front.run)) passed (run_passes (decode set) (decode_rows cells) (sound set cells passed).0 (sound set cells passed).1 front.run front.written (let q = front.count in let h = (room_fits (length work)).0 in omega arith));
                  rest = ap (drop (s * step_cells)) front.cells ∙ drop_at (encode_steps front.run) (drop (s * step_cells) run) (s * step_cells) length_front;
                };
                accepted = λ _ _. (decided set cells passed).0 has_run;
                rejected = λ e. absurd (yes_no s e);
                isolates = λ p _ _. (isolating set cells passed p).0 ((decided set cells passed).0 has_run);
                isolates_not = λ _ e. absurd (yes_no s e);
                recognized = λ p f _ _. (recognizing set cells passed p f).0 ((decided set cells passed).0 has_run);
                unrecognized = λ _ _ e. absurd (yes_no s e);
              }

          pub says : (s : Option ℕ) → RunWritten (decode set) (decode_rows cells) n run run' s → Judging set cells work run (Ok s) work' run'
          says None w = says_no w
          says (Some s) w = says_yes s w

small : (b : Bool) (n rest : ℕ) → n < 18 → rest < 18 → demand b n rest < 18
unfolding demand
small true n rest l h = h
small false n rest l h = l

after : (a b : ℕ) → a < 18 → b < 18 → and_after a b < 18
unfolding and_after
after zero b l h = h
after (suc a) b l h = l

first_number : (set cells : List ℕ) (work run d : ℕ) → document_check_of set cells ≡ suc d → judge_check_of set cells work run ≡ suc d
unfolding judge_check_of and_after
first_number set cells work run d e = ap (λ k. and_after k (demand (leb (room_of work) (run / step_cells)) 32 (demand (leb (length (annotations (decode set) (decode_rows cells))) (room_of work)) 31 0))) e

untouched_work : (d : ℕ) (work : List ℕ) → suc d < 18 → work_after (suc d) work ≡ work
untouched_work d work l = (λ x. cond (ne_eqb (suc d) 0 (λ e. omega arith) x || ne_eqb (suc d) 31 (λ e. omega arith) x) (replicate (length work) 0) work)

-- the set's and the table's numbers are below 18
set_small : (set : List ℕ) → check_of set < 18
set_small set = let h = check_most set in omega arith

document_small : (set cells : List ℕ) → document_check_of set cells < 18
unfolding table_check_of form_check_of distinct_check_of used_check_of levels_check_of
document_small set cells =
    after (check_of set) (table_check_of (decode set) cells)
    (set_small set)
    (after (form_check_of (decode set) cells) _ (small _ 11 _ (lit< tt) (small _ 12 _ (lit< tt) (small _ 13 _ (lit< tt) (small _ 14 0 (lit< tt) (lit< tt)))))
    (after (distinct_check_of (decode_rows cells)) _ (small _ 15 0 (lit< tt) (lit< tt))
    (after (used_check_of (decode_rows cells)) _ (small _ 16 0 (lit< tt) (lit< tt)) (small _ 17 0 (lit< tt) (lit< tt)))))

-- what refuses the set or the table refuses the judging
pub refused_first : (set cells work run : List ℕ) (r : Result (Unit {0}) Refusal) (w : Refusal) → check_answer r ≡ unless (document_check_of set cells) tt → r ≡ Err w → Judging set cells work run (Err w) work run
refused_first set cells work run r w e q =
    let s = some_number w in
    let d : document_check_of set cells ≡ number w = sym (answer_is r (document_check_of set cells) e) ∙ ap refused_by q in
    let small = document_small set cells in
    refused set cells work run w (first_number set cells (length work) (length run) s.0 (d ∙ s.1) ∙ sym s.1) work (sym (ap (λ k. work_after k work) s.1 ∙ untouched_work s.0 work (omega (arith, small, d, s.1))))

pub ruleset judges = (refused_first, passed_zero, rules)

over : (n room : ℕ) → demand (leb n room) 31 0 ≡ 31 → room < n
over n room e = go (leb n room) refl e
  where
    go : (b : Bool) → leb n room ≡ b → demand b 31 0 ≡ 31 → room < n
    go true q h = let z : ◌≡◌ {A = ℕ} 0 31 = sym (demand_so true 31 0 refl) ∙ h in let w : ⊥ = omega arith in absurd w
    go false q h = leb-false n room q

-- THE MEANING of 31: more distinct derivable annotations than the room, whatever list without repeats counts them.
pub full_means : (set cells : List ℕ) (work run : ℕ) → document_check_of set cells ≡ 0 → room_of work ≤ run / step_cells → (d : Annotation) (list : List Annotation) → NoRepeats d list → ((a : Annotation) → In a list ↔ Derivable (decode set) (decode_rows cells) a.row a.state a.memory) → (judge_check_of set cells work run ≡ 31) ↔ (room_of work < length list)
unfolding judge_check_of and_after
full_means set cells work run passed enough d list once all =
    let table = (sound_document set cells passed).1 in
    let n = annotation_count (decode set) (decode_rows cells) table.lower d list once all in
    let e : judge_check_of set cells work run ≡ demand (leb (length (annotations (decode set) (decode_rows cells))) (room_of work)) 31 0 =
    ap (λ k. and_after k (demand (leb (room_of work) (run / step_cells)) 32 (demand (leb (length (annotations (decode set) (decode_rows cells))) (room_of work)) 31 0))) passed ∙ demand_so _ 32 _ (le-leb (room_of work) (run / step_cells) enough) in (
      λ h. let g = over (length (annotations (decode set) (decode_rows cells))) (room_of work) (sym e ∙ h) in omega arith,
      λ l. e ∙ demand_not _ 31 0 (lt-leb (length (annotations (decode set) (decode_rows cells))) (room_of work) (omega arith)),
    )

document_passed : (set cells : List ℕ) (work run : ℕ) → judge_check_of set cells work run ≡ 0 → document_check_of set cells ≡ 0
unfolding judge_check_of
document_passed set cells work run e = (both_passed (document_check_of set cells) _ e).0

-- THE MEANING of the answer: where no number refuses the inputs, yes exactly where an accepting run exists, no exactly where none does.
pub judged_means : (set cells : List ℕ) (work run : ℕ) → judge_check_of set cells work run ≡ 0
    → ((unless (judge_check_of set cells work run) (accepts? (decode set) (decode_rows cells)) ≡ gives true) ↔ Accepts (decode set) (tree_of (decode_rows cells)))
    × ((unless (judge_check_of set cells work run) (accepts? (decode set) (decode_rows cells)) ≡ gives false) ↔ (Accepts (decode set) (tree_of (decode_rows cells)) → ⊥))
unfolding unless
judged_means set cells work run e =
    rw e (go (accepts? (decode set) (decode_rows cells)) (decided set cells (document_passed set cells work run e)))
  where
    go : (b : Bool) → (b ≡ true) ↔ Accepts (decode set) (tree_of (decode_rows cells)) → ((gives b ≡ gives true) ↔ Accepts (decode set) (tree_of (decode_rows cells))) × ((gives b ≡ gives false) ↔ (Accepts (decode set) (tree_of (decode_rows cells)) → ⊥))
    go true h = ((λ _. h.0 refl, λ _. refl), (λ q. absurd (gives_apart q), λ f. absurd (f (h.0 refl))))
    go false h = ((λ q. absurd (gives_apart (sym q)), λ a. true_false (sym (h.1 a))), (λ _ a. true_false (sym (h.1 a)), λ _. refl))
