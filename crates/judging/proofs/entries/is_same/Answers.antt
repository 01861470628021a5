-- `judging::entries::is_same` meets its contract. Assumes nothing.
use Rattle.judging.proofs.Reading.{cells}
use Rattle.judging.proofs.entries.is_same.Goals as goal

pub returns-then-row-work : goal.returns-then-row-work
returns-then-row-work c = search cells

pub returns-then-state-work : goal.returns-then-state-work
returns-then-state-work c = search cells

pub returns : goal.returns
returns c = search cells
