-- `runs::steps::cell` meets its contract: past the end a cell counts as 0. Assumes nothing.
use Rattle.std.proofs.Common.{rules}
use Rattle.runs.specs.Steps.{cell_in}
use Rattle.runs.proofs.steps.cell.Goals as goal

pub returns : goal.returns
unfolding cell_in
returns c = search rules
