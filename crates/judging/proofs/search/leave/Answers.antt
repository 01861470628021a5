-- `judging::search::leave` meets its contract. Assumes nothing.
use Rattle.judging.proofs.Storing.{leaves}
use Rattle.judging.proofs.search.leave.Goals as goal

pub returns-then-asked-eq0 : goal.returns-then-asked-eq0
returns-then-asked-eq0 c = search leaves
