-- `membership::trace::is_reached` meets its contract. Assumes nothing.
use Rattle.membership.proofs.Marks.{reads}
use Rattle.membership.proofs.trace.is_reached.Goals as goal

pub returns : goal.returns
returns c = search reads
