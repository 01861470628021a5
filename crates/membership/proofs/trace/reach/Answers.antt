-- `membership::trace::reach` meets its contract. Assumes nothing.
use Rattle.membership.proofs.Marks.{reads}
use Rattle.membership.proofs.trace.reach.Goals as goal

pub returns : goal.returns
returns c = search reads
