-- The run handed back: which one is free, and this is what holds of it. Assumes nothing.
use Rattle.std.specs.Prelude.{◌≡◌, Option, MatchOption, List, ◌++◌, true, false, ℕ, suc, ◌*◌, ◌<◌, ◌≤◌, length, drop}
use Rattle.model.specs.Automaton.{Automaton}
use Rattle.model.specs.Table.{Row}
use Rattle.model.specs.Annotation.{accepts?}
use Rattle.model.specs.Written.{Step, WrittenRun}
use Rattle.runs.specs.Steps.{step_cells, encode_steps}
use Rattle.membership.specs.Trace.{reached?, rank_of, steps_written}

-- the steps of the annotations up to the root that are reached are written at the front, and r is their number
pub record StepsWritten (work : List ℕ) (root : ℕ) (before after : List ℕ) (r : ℕ) : Type 0 where
  pub count : r ≡ rank_of (reached? work) (suc root)
  pub cells : after ≡ steps_written work (reached? work) (suc root) ++ drop (r * step_cells) before

-- A run of r steps stands at the front of the run space, the rest of it as it was.
pub record RunFront (A : Automaton) (rows : List Row) (before after : List ℕ) (r : ℕ) : Type 0 where
  pub run : List Step
  pub written : WrittenRun A rows run
  pub count : length run ≡ r
  pub cells : after ≡ encode_steps run ++ drop (r * step_cells) before

-- Which run is handed back is free. Of n annotations, none accepting: no run and the space as it was. Else a run with at most n steps, and one at least.
abbrev pub RunWritten : Automaton → List Row → ℕ → List ℕ → List ℕ → Option ℕ → Type 0
RunWritten A rows n before after r = MatchOption r ((accepts? A rows ≡ false) × (after ≡ before)) (λ s. (0 < s) × (s ≤ n) × (accepts? A rows ≡ true) × RunFront A rows before after s)
