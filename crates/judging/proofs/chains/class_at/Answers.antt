-- `judging::chains::class_at` meets its contract. Assumes nothing.
use Rattle.judging.proofs.States.{class_read}
use Rattle.judging.proofs.chains.class_at.Goals as goal

pub returns : goal.returns
returns c = class_read c.args.work.now c.args.j c.from.result c.from.ensures
