-- `membership::entries::joined_with` meets its contract. Assumes nothing.
use Rattle.membership.proofs.Reading.{choice_joined}
use Rattle.membership.proofs.entries.joined_with.Goals as goal

pub returns : goal.returns
returns c = choice_joined c.args.work.now c.args.j c.args.memory.now c.join.result c.join.ensures
