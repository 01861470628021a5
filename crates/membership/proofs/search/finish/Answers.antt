-- `membership::search::finish` meets its contract. Assumes nothing.
use Rattle.membership.proofs.Storing.{finishing}
use Rattle.membership.proofs.search.finish.Goals as goal

pub returns-then-agree : goal.returns-then-agree
returns-then-agree c = search finishing

pub returns : goal.returns
returns c = search finishing
