-- What the passes of the run check ask. Assumes nothing.
use Rattle.std.specs.Prelude.{◌≡◌, List, true, ℕ, ◌<◌, ◌≤◌, length}
use Rattle.model.specs.Limits.{max_steps}
use Rattle.model.specs.Lists.{all_below}
use Rattle.model.specs.Written.{Step}
use Rattle.model.specs.WrittenTest.{known?}
use Rattle.automaton.specs.Stored.{decode}
use Rattle.document.specs.Rows.{decode_rows}
use Rattle.document.specs.Check.{document_check_of}
use Rattle.runs.specs.Steps.{decode_steps}

-- n is the number of steps, and 21 does not refuse them for it
pub record Counted (run : List Step) (n : ℕ) : Type 0 where
  pub steps : n ≡ length run
  pub some : 0 < n
  pub few : n ≤ max_steps

-- the set and the table are sound, and the rule and the row of step i are known
pub record Known (set rows run : List ℕ) (i : ℕ) : Type 0 where
  pub sound : document_check_of set rows ≡ 0
  pub known : known? (decode set) (decode_rows rows) (decode_steps run) i ≡ true

-- the same at each of the n steps
pub record Ready (set rows run : List ℕ) (n : ℕ) : Type 0 where
  pub sound : document_check_of set rows ≡ 0
  pub counted : Counted (decode_steps run) n
  pub known : all_below n (known? (decode set) (decode_rows rows) (decode_steps run)) ≡ true
