-- `runs::tried` meets its contract: the run is counted, then tried. Assumes nothing.
use mathlib.Core.Path.{ap}
use Rattle.std.specs.Prelude.{is_some}
use Rattle.automaton.proofs.Verdict.{stop}
use Rattle.runs.specs.Check.{run_check_of}
use Rattle.runs.proofs.tried.Goals as goal

pub returns-in_default : goal.returns-in_default
unfolding run_check_of
returns-in_default c = stop _ _ 21 _ c.counted.ensures.told (ap is_some c.in_default.is)
