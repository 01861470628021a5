-- `membership::memory::same` meets its contract. Assumes nothing.
use Rattle.membership.proofs.Places.{same_fronts}
use Rattle.membership.proofs.memory.same.Goals as goal

pub returns : goal.returns
returns c = same_fronts c.args.tags c.args.a.now c.args.b.now c.eq.result c.requires.0 c.requires.1 c.eq.ensures
