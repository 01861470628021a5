-- `judging::entries::choosable` meets its contract. Assumes nothing.
use Rattle.judging.proofs.Reading.{cells}
use Rattle.judging.proofs.entries.choosable.Goals as goal

pub returns-then-work-at : goal.returns-then-work-at
returns-then-work-at c = search cells

pub returns : goal.returns
returns c = search cells
