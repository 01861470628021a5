-- `judging::entries::joined_with` meets its contract. Assumes nothing.
use Rattle.judging.proofs.Reading.{choice_joined}
use Rattle.judging.proofs.entries.joined_with.Goals as goal

pub returns : goal.returns
returns c = choice_joined c.args.work.now c.args.j c.args.memory.now c.join.result c.join.ensures
