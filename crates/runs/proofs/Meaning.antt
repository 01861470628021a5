-- A run that the check does not refuse shows that the document is accepted; and every written run passes. Assumes nothing.
use mathlib.Core.Path.{◌≡◌, sym, ap, ◌∙◌, subst}
use mathlib.Core.List.{List}
use Prim.Native.Nat.{ℕ, ◌%◌, ◌<◌, ◌≤◌}
use native.Mathlib.Omega.{arith}
use borrow.Author.Tests.{eq-eqb}
use lib.Dec.{T, eqb, leb, le→leb}
use lib.ListN.{length, get_or}
use Rattle.model.specs.Limits.{max_children, max_steps, unused}
use Rattle.model.specs.Automaton.{Automaton, ForgetsNothing}
use Rattle.model.specs.Run.{Accepts}
use Rattle.model.specs.Sound.{Sound}
use Rattle.model.specs.Table.{Row, tree_of, SoundTable}
use Rattle.model.specs.Written.{Step, step_at, row_of, WrittenRun, OneRow}
use Rattle.model.proofs.Members.{T_true, and_T}
use Rattle.model.proofs.Count.{place_of_lem}
use Rattle.model.proofs.Order.{ascending_once}
use Rattle.model.proofs.OneRow.{one_row_clear, clear_one_row}
use Rattle.model.proofs.Written.{run_accepted}
use Rattle.model.proofs.WrittenTest.{tested_run, known_passes, fits_passes, one_row_passes, ends_passes, used_passes}
use Rattle.automaton.specs.Stored.{decode}
use Rattle.document.specs.Rows.{decode_rows}
use Rattle.document.specs.Check.{document_check_of}
use Rattle.document.proofs.Refusals.{both_passed}
use Rattle.runs.specs.Steps.{step_cells, place_in, decode_steps, encode_steps, Fits}
use Rattle.runs.specs.Check.{counted?, run_check_of, check_run_of}
use Rattle.runs.proofs.Encoding.{length_encode, encoded_place, decode_encode}
use Rattle.runs.proofs.Sound.{sound_set, sound_rows}
use Rattle.runs.proofs.Tested.{Tests, passes, few_steps, steps_are, steps_fit}

module _ (A : Automaton) (rows : List Row) (cells : List ℕ) where
  abbrev run : List Step
  run = decode_steps cells

  module _ (sound : Sound A) (table : SoundTable A rows) where
    -- What the run check does not refuse is a written run.
    pub written_run : run_check_of A rows cells ≡ 0 → WrittenRun A rows (decode_steps cells)
    written_run h =
        let t = (passes A rows cells).0 h in
        let (some, few) = few_steps cells t.counted in
        tested_run A rows run sound table (place_in cells) some t.known t.fit (steps_are A rows cells sound table few t.known t.fit) t.one_row t.ends t.used

    -- What passed where 24 asked for one row for each tag over all steps (document 01) still passes, whatever rules forget ..
    pub plain_passes : Tests A rows cells (OneRow A (decode_steps cells)) → run_check_of A rows cells ≡ 0
    plain_passes t =
        (passes A rows cells).1
        record {
          counted = t.counted;
          known = t.known;
          fit = t.fit;
          one_row = one_row_clear A rows run (steps_fit A rows cells sound table (few_steps cells t.counted).1 t.known t.fit) t.one_row;
          ends = t.ends;
          used = t.used;
        }

    -- .. and where no rule forgets, nothing more does.
    pub passes_plain : ForgetsNothing A → run_check_of A rows cells ≡ 0 → Tests A rows cells (OneRow A (decode_steps cells))
    passes_plain nothing h =
        let t = (passes A rows cells).0 h in
        record { counted = t.counted; known = t.known; fit = t.fit; one_row = clear_one_row A rows run nothing (written_run h); ends = t.ends; used = t.used }

  -- A written run passes, where the places of each step hold its child steps, then 65535.
  settled_passes : WrittenRun A rows run → T (counted? cells) → ((i : ℕ) → i < length run → (k : ℕ) → k < max_children → place_in cells i k ≡ get_or (step_at run i).steps k unused) → run_check_of A rows cells ≡ 0
  settled_passes w c settled =
      (passes A rows cells).1
      record {
        counted = c;
        known = known_passes A rows run w;
        fit = fits_passes A rows run w (place_in cells) settled;
        one_row = one_row_passes A rows run w;
        ends = ends_passes A rows run w;
        used = used_passes A rows run w;
      }

-- The steps of a written run fit their cells.
module _ (A : Automaton) (rows : List Row) (sound : Sound A) (table : SoundTable A rows) (run : List Step) (w : WrittenRun A rows run) (few : length run ≤ max_steps) where
  step_fits_cells : (i : ℕ) → i < length run → Fits (step_at run i)
  step_fits_cells i l =
      let s = w.each i l in
      record {
        rule = omega (arith, s.known_rule, sound.few_rules);
        row = omega (arith, s.known_row, table.few_rows);
        few = rw (s.one_each ∙ (table.each (step_at run i).row s.known_row).as_many) (sound.few_children (row_of rows run i).symbol);
        places = λ j m. let (k, o, e) = place_of_lem 0 m in let n = s.one_each in let low = s.lower k (omega arith) in omega arith;
      }

  back : decode_steps (encode_steps run) ≡ run
  back = decode_encode run step_fits_cells

  counted_encoded : T (counted? (encode_steps run))
  unfolding counted?
  counted_encoded =
      let n = ap length back in
      let e = length_encode run in
      and_T (leb 1 (length (decode_steps (encode_steps run)))) _ (le→leb 1 (length (decode_steps (encode_steps run))) (omega (arith, w.some_step)))
      (and_T (leb (length (decode_steps (encode_steps run))) max_steps) _ (le→leb (length (decode_steps (encode_steps run))) max_steps (omega arith))
      ((T_true (eqb (length (encode_steps run) % step_cells) 0)).1 (eq-eqb (length (encode_steps run) % step_cells) 0 (omega arith))))

  -- Every written run of at most 4,096 steps, on a sound table of a sound set, passes the run check.
  pub run_passes : run_check_of A rows (encode_steps run) ≡ 0
  run_passes =
      settled_passes A rows (encode_steps run) (subst (WrittenRun A rows) (sym back) w) counted_encoded
      (λ i l k m. encoded_place run i (subst (λ (r : List Step). i < length r) back l) k m ∙ ap (λ (r : List Step). get_or (step_at r i).steps k unused) (sym back))

module _ (set doc run : List ℕ) (h : check_run_of set doc run ≡ 0) where
  document_passed : document_check_of set doc ≡ 0
  document_passed = (both_passed (document_check_of set doc) (run_check_of (decode set) (decode_rows doc) run) h).0

  -- A lent run that the check passes is a written run of the set on the document.
  pub run_written : WrittenRun (decode set) (decode_rows doc) (decode_steps run)
  run_written =
      written_run (decode set) (decode_rows doc) run (sound_set set doc document_passed) (sound_rows set doc document_passed)
      (both_passed (document_check_of set doc) (run_check_of (decode set) (decode_rows doc) run) h).1

  -- So it shows that the set lets the document in.
  pub run_shows : Accepts (decode set) (tree_of (decode_rows doc))
  run_shows =
      let table = sound_rows set doc document_passed in
      run_accepted (decode set) (decode_rows doc) (decode_steps run) run_written table.lower (ascending_once (decode set) (sound_set set doc document_passed).ascending) table.distinct
