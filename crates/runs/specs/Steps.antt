-- Lent steps: six 16-bit cells each, and the steps that they hold (document 01, section "Runs"). Assumes nothing.
use mathlib.Core.List.{List, ◌∷◌, Memᴰ as In}
use Rattle.std.specs.Prelude.{ℕ, ◌+◌, ◌*◌, ◌/◌, ◌<◌, ◌≤◌, length, get_or}
use Rattle.model.specs.Limits.{max_children, unused}
use Rattle.model.specs.Lists.{concat_map, tab}
use Rattle.model.specs.Written.{Step}
use Rattle.document.specs.Rows.{used, places_of}

-- the cells of a step: rule, row, step places
abbrev pub step_cells : ℕ
step_cells = 6

-- cell k of step i; 0 past the end
unfoldable pub cell_in : List ℕ → ℕ → ℕ → ℕ
cell_in cells i k = get_or cells (i * step_cells + k) 0

-- the step places of step i, used or not
abbrev pub places_in : List ℕ → ℕ → List ℕ
places_in cells i = tab max_children (λ k. cell_in cells i (2 + k))

-- place k of step i; no step has more than four places
unfoldable pub place_in : List ℕ → ℕ → ℕ → ℕ
place_in cells i k = get_or (places_in cells i) k unused

-- step i: its child steps are the places up to the first unused one
abbrev pub step_in : List ℕ → ℕ → Step
step_in cells i = record { rule = cell_in cells i 0; row = cell_in cells i 1; steps = used (places_in cells i) }

-- as many steps as fit whole
abbrev pub decode_steps : List ℕ → List Step
decode_steps cells = tab (length cells / step_cells) (step_in cells)

-- the six cells of a step, the places after its child steps unused
abbrev pub encode_step : Step → List ℕ
encode_step s = s.rule ∷ s.row ∷ places_of s.steps

abbrev pub encode_steps : List Step → List ℕ
encode_steps run = concat_map encode_step run

-- what six cells can hold
pub record Fits (s : Step) : Type 0 where
  pub rule : s.rule < 65536
  pub row : s.row < 65536
  pub few : length s.steps ≤ max_children
  pub places : (j : ℕ) → In j s.steps → j < unused
