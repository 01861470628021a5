-- `runs::steps::count` meets its contract. Assumes nothing.
use Rattle.runs.proofs.Reading.{reading}
use Rattle.runs.proofs.steps.count.Goals as goal

pub returns : goal.returns
returns c = search reading
