-- `runs::steps::rule` meets its contract. Assumes nothing.
use Rattle.runs.proofs.Reading.{reading}
use Rattle.runs.proofs.steps.rule.Goals as goal

pub returns-then-from-count : goal.returns-then-from-count
returns-then-from-count c = search reading
