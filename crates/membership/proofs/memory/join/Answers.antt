use Rattle.membership.proofs.Places.{joins}
use Rattle.membership.proofs.memory.join.Goals as goal

pub returns : goal.returns
returns c = search joins
