-- `emptiness::marking::is_marked` meets its contract. Assumes nothing.
use mathlib.Core.Path.{ap}
use mathlib.Core.Bool.{not}
use lib.Dec.{eqb}
use Rattle.emptiness.specs.Marking.{marked?}
use Rattle.emptiness.proofs.marking.is_marked.Goals as goal

pub returns : goal.returns
unfolding marked?
returns c = ap (λ x. not (eqb x 0)) c.mark_of.ensures
