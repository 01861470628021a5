-- `membership::trace::last_row` meets its contract. Assumes nothing.
use Rattle.membership.proofs.Marks.{lasts}
use Rattle.membership.proofs.trace.last_row.Goals as goal

pub narrow-requires : goal.narrow-requires
narrow-requires c = search lasts

pub returns : goal.returns
returns c = search lasts
