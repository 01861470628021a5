-- Steps by value. Assumes nothing.
use Rattle.std.specs.Prelude.{List, ◌∷◌, map, ℕ}
use Rattle.document.specs.declared.rows.Step.{Step}
use Rattle.runs.specs.declared.steps.StepFields.{StepFields}

-- the numbers of steps by value
abbrev pub step_numbers : List Step → List ℕ
step_numbers steps = map (λ s. s.0) steps

-- the six cells of a step
abbrev pub field_cells : StepFields → List ℕ
field_cells f = f.rule ∷ f.row.0 ∷ step_numbers f.places
