-- `membership::search::leave` meets its contract. Assumes nothing.
use Rattle.membership.proofs.Storing.{leaves}
use Rattle.membership.proofs.search.leave.Goals as goal

pub returns-then-want-eq0 : goal.returns-then-want-eq0
returns-then-want-eq0 c = search leaves
