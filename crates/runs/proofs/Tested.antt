-- The tests of a run one by one: no number refuses it exactly where each passes; and what passes 21 to 23 has steps that fit. Assumes nothing.
use mathlib.Core.Path.{◌≡◌, refl, sym, ap, ◌∙◌}
use mathlib.Core.Logic.{⊎_elim, ◌↔◌}
use mathlib.Core.List.{List}
use mathlib.Core.Bool.{Bool, ◌&&◌}
use Prim.Native.Nat.{ℕ, ◌+◌, ◌-◌, ◌%◌, ◌<◌, ◌≤◌}
use native.Mathlib.Omega.{arith}
use lib.Dec.{T, eqb, leb, leb→le}
use lib.ListN.{length, get_or}
use Rattle.model.specs.Limits.{max_children, max_steps, unused}
use Rattle.model.specs.Lists.{tab, all_below}
use Rattle.model.specs.Refusal.{demand}
use Rattle.model.specs.Automaton.{Automaton}
use Rattle.model.specs.Sound.{Sound}
use Rattle.model.specs.Table.{Row, SoundTable}
use Rattle.model.specs.Written.{Step, step_at, row_of, StepFits}
use Rattle.model.specs.WrittenTest.{known?, step_fits?, one_row?, ends?, used?}
use Rattle.model.proofs.Members.{T_true, T_and}
use Rattle.model.proofs.Tab.{tab_at, tab_past, length_tab, in_tab}
use Rattle.model.proofs.Below.{all_at}
use Rattle.model.proofs.WrittenTest.{few_kids, place_low, place_rest, tested_steps}
use Rattle.model.proofs.ByTag.{lower_step}
use Rattle.automaton.proofs.Parts.{below_or, tab_same}
use Rattle.document.specs.Rows.{used}
use Rattle.document.proofs.Encoding.{all_used, used_places}
use Rattle.document.proofs.Refusals.{passed, pass}
use Rattle.runs.specs.Steps.{step_cells, cell_in, place_in, decode_steps}
use Rattle.runs.specs.Check.{counted?, run_check_of}
use Rattle.runs.specs.Memories.{Fitted}
use Rattle.runs.proofs.Reading.{step_at_lem, place_cell}

-- what each number asks, 24 as given
pub record Tests (A : Automaton) (rows : List Row) (cells : List ℕ) (One : Type 0) : Type 0 where
  pub counted : T (counted? cells)
  pub known : T (all_below (length (decode_steps cells)) (known? A rows (decode_steps cells)))
  pub fit : T (all_below (length (decode_steps cells)) (step_fits? A rows (decode_steps cells) (place_in cells)))
  pub one_row : One
  pub ends : T (ends? A rows (decode_steps cells))
  pub used : T (all_below (length (decode_steps cells) - 1) (used? (decode_steps cells)))

took : (b : Bool) (n rest : ℕ) → 0 < n → demand b n rest ≡ 0 → T b × (rest ≡ 0)
took b n rest l h = let (e, g) = passed b n rest l h in ((T_true b).1 e, g)

take : (b : Bool) (n rest : ℕ) → T b → rest ≡ 0 → demand b n rest ≡ 0
take b n rest t h = pass b n rest ((T_true b).0 t) h

-- 21: some step, and few
pub few_steps : (cells : List ℕ) → T (counted? cells) → (0 < length (decode_steps cells)) × (length (decode_steps cells) ≤ max_steps)
unfolding counted?
few_steps cells c =
    let n = length (decode_steps cells) in
    let (some, c') = T_and (leb 1 n) (leb n max_steps && eqb (length cells % step_cells) 0) c in
    (leb→le 1 n some, leb→le n max_steps (T_and (leb n max_steps) (eqb (length cells % step_cells) 0) c').0)

module _ (A : Automaton) (rows : List Row) (cells : List ℕ) where
  abbrev run : List Step
  run = decode_steps cells

  -- the rows of the children of step i
  abbrev kids : ℕ → List ℕ
  kids i = (row_of rows run i).children

  pub passes : (run_check_of A rows cells ≡ 0) ↔ Tests A rows cells (T (one_row? A (decode_steps cells)))
  unfolding run_check_of
  passes = (
    λ h.
        let (c, h₁) = took (counted? cells) 21 _ (omega arith) h in
        let (k, h₂) = took (all_below (length run) (known? A rows run)) 22 _ (omega arith) h₁ in
        let (f, h₃) = took (all_below (length run) (step_fits? A rows run (place_in cells))) 23 _ (omega arith) h₂ in
        let (o, h₄) = took (one_row? A run) 24 _ (omega arith) h₃ in
        let (e, h₅) = took (ends? A rows run) 25 _ (omega arith) h₄ in
        let (u, h₆) = took (all_below (length run - 1) (used? run)) 26 0 (omega arith) h₅ in
        record { counted = c; known = k; fit = f; one_row = o; ends = e; used = u },
    λ t.
        take (counted? cells) 21 _ t.counted
        (take (all_below (length run) (known? A rows run)) 22 _ t.known
        (take (all_below (length run) (step_fits? A rows run (place_in cells))) 23 _ t.fit
        (take (one_row? A run) 24 _ t.one_row
        (take (ends? A rows run) 25 _ t.ends
        (take (all_below (length run - 1) (used? run)) 26 0 t.used refl))))),
  )

  module _ (sound : Sound A) (table : SoundTable A rows) (few : length (decode_steps cells) ≤ max_steps) (known : T (all_below (length (decode_steps cells)) (known? A rows (decode_steps cells)))) (fit : T (all_below (length (decode_steps cells)) (step_fits? A rows (decode_steps cells) (place_in cells)))) where
    -- the child steps are the places in use
    pub steps_are : (i : ℕ) → i < length (decode_steps cells) → (step_at (decode_steps cells) i).steps ≡ tab (length (row_of rows (decode_steps cells) i).children) (place_in cells i)
    steps_are i l =
        let k = all_at (length run) (known? A rows run) known i l in
        let f = all_at (length run) (step_fits? A rows run (place_in cells)) fit i l in
        ap (λ (s : Step). s.steps) (step_at_lem cells i l)
        ∙ ap used (tab_same max_children (λ k. cell_in cells i (2 + k)) (λ k. get_or (tab (length (kids i)) (place_in cells i)) k unused)
        (λ j m. place_cell cells i j (cell_in cells i (2 + j)) m refl ∙ ⊎_elim
        (λ o. sym (tab_at unused (length (kids i)) (place_in cells i) j o))
        (λ o. place_rest A rows run sound table (place_in cells) i k f j o m ∙ sym (tab_past unused (length (kids i)) (place_in cells i) j o))
        (below_or j (length (kids i)))))
        ∙ used_places max_children (tab (length (kids i)) (place_in cells i)) (rw length_tab (few_kids A rows run sound table (place_in cells) i k f))
        (all_used (tab (length (kids i)) (place_in cells i))
        (λ j m. let (x, o, e) = in_tab (length (kids i)) (place_in cells i) m in let w = place_low A rows run sound table (place_in cells) i k f x o in omega arith))

    pub steps_fit : (i : ℕ) → i < length (decode_steps cells) → StepFits A rows (decode_steps cells) i
    steps_fit = tested_steps A rows run sound table (place_in cells) known fit steps_are

    pub fitted : (n : ℕ) → n ≡ length (decode_steps cells) → Fitted A (decode_steps cells) n
    fitted n m = record {
      placed = record {
        steps = m;
        few = omega arith;
        rows = λ i l. let k = (steps_fit i (omega arith)).known_row in omega (arith, table.few_rows);
        lower = λ i l. lower_step A run rows steps_fit i (omega arith);
      };
      tags = sound.few_tags;
      table = rows;
      each = steps_fit;
    }
