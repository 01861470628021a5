-- `membership::trace::child` meets its contract. Assumes nothing.
use Rattle.membership.proofs.Marks.{reads}
use Rattle.membership.proofs.trace.child.Goals as goal

pub returns : goal.returns
returns c = search reads
