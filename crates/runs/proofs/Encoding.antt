-- Steps to cells and back: what encodes a step decodes to it; and a step put behind others. Assumes nothing.
use mathlib.Core.Path.{◌≡◌, refl, sym, ap, ◌∙◌}
use mathlib.Core.List.{List, [], ◌∷◌, ◌++◌, append_assoc}
use Prim.Native.Nat.{ℕ, suc, ◌+◌, ◌*◌, ◌/◌, ◌<◌, ◌≤◌}
use native.Mathlib.Omega.{arith}
use lib.ListN.{length, get_or, drop, length-append}
use lib.Seq.{take_at, drop-append-add}
use Rattle.model.specs.Limits.{max_children, unused}
use Rattle.model.specs.Space.{put_at}
use Rattle.model.specs.Written.{Step, step_at}
use Rattle.model.proofs.Tab.{tab_at}
use Rattle.model.proofs.Space.{put_fits}
use Rattle.automaton.proofs.Parts.{tab_same, tab_is, length_concat, concat_at}
use Rattle.document.specs.Rows.{used}
use Rattle.document.proofs.Encoding.{all_used, used_places}
use Rattle.runs.specs.Steps.{step_cells, cell_in, places_in, place_in, step_in, decode_steps, encode_step, encode_steps, Fits}
use Rattle.runs.proofs.Reading.{no_step}

pub length_encode : (run : List Step) → length (encode_steps run) ≡ step_cells * length run
length_encode run = length_concat encode_step step_cells (λ s. refl) run

two_more : (k : ℕ) → 2 + k ≡ suc (suc k)
two_more k = omega arith

module _ (run : List Step) (i : ℕ) (l : i < length run) where
  encode_cell : (k : ℕ) → k < step_cells → cell_in (encode_steps run) i k ≡ get_or (encode_step (step_at run i)) k 0
  unfolding cell_in
  encode_cell k m =
      let e : i * step_cells + k ≡ step_cells * i + k = omega arith in
      ap (λ (n : ℕ). get_or (encode_steps run) n 0) e ∙ concat_at encode_step step_cells (λ s. refl) no_step run i k l m

  place_cell : (k : ℕ) → k < max_children → cell_in (encode_steps run) i (2 + k) ≡ get_or (step_at run i).steps k unused
  place_cell k m =
      encode_cell (2 + k) (omega arith)
      ∙ ap (λ (n : ℕ). get_or (encode_step (step_at run i)) n 0) (two_more k)
      ∙ tab_at 0 max_children (λ j. get_or (step_at run i).steps j unused) k m

  -- place k of an encoded step is its child step, or unused
  pub encoded_place : (k : ℕ) → k < max_children → place_in (encode_steps run) i k ≡ get_or (step_at run i).steps k unused
  unfolding place_in
  encoded_place k m = tab_at unused max_children (λ k. cell_in (encode_steps run) i (2 + k)) k m ∙ place_cell k m

  encoded_steps : Fits (step_at run i) → used (places_in (encode_steps run) i) ≡ (step_at run i).steps
  encoded_steps f =
      ap used (tab_same max_children (λ k. cell_in (encode_steps run) i (2 + k)) (λ k. get_or (step_at run i).steps k unused) place_cell)
      ∙ used_places max_children (step_at run i).steps f.few (all_used (step_at run i).steps f.places)

  encoded_step : Fits (step_at run i) → step_in (encode_steps run) i ≡ step_at run i
  encoded_step f = λ x. record { rule = encode_cell 0 (omega arith) x; row = encode_cell 1 (omega arith) x; steps = encoded_steps f x }

-- Steps that fit their cells come back unchanged.
pub decode_encode : (run : List Step) → ((i : ℕ) → i < length run → Fits (step_at run i)) → decode_steps (encode_steps run) ≡ run
decode_encode run h =
    let e = length_encode run in
    tab_is no_step run (length (encode_steps run) / step_cells) (step_in (encode_steps run)) (omega arith) (λ i l. encoded_step run i l (h i l))

encode_append : (run : List Step) (s : Step) → encode_steps (run ++ s ∷ []) ≡ encode_steps run ++ encode_step s
encode_append [] s = refl
encode_append (r ∷ run) s = ap (λ (cells : List ℕ). encode_step r ++ cells) (encode_append run s) ∙ sym (append_assoc (encode_step r) (encode_steps run) (encode_step s))

-- A step put behind encoded steps: the space begins with one step more, and the rest is as it was.
pub put_next : (run : List Step) (s : Step) (rest : List ℕ) → step_cells ≤ length rest → put_at (encode_steps run ++ rest) (length run * step_cells) (encode_step s) ≡ encode_steps (run ++ s ∷ []) ++ drop step_cells rest
put_next run s rest h =
    let n = length_encode run in
    let at : length run * step_cells ≡ length (encode_steps run) = omega arith in
    ap (λ (k : ℕ). put_at (encode_steps run ++ rest) k (encode_step s)) at
    ∙ put_fits (encode_steps run ++ rest) (length (encode_steps run)) (encode_step s) (rw length-append (omega arith))
    ∙ ap (λ (cells : List ℕ). cells ++ encode_step s ++ drop (length (encode_steps run) + step_cells) (encode_steps run ++ rest)) (take_at (encode_steps run) rest (length (encode_steps run)) refl)
    ∙ ap (λ (cells : List ℕ). encode_steps run ++ encode_step s ++ cells) (drop-append-add (encode_steps run) rest step_cells)
    ∙ ap (λ (cells : List ℕ). cells ++ drop step_cells rest) (sym (encode_append run s))
