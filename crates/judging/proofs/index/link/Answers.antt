-- `judging::index::link` meets its contract. Assumes nothing.
use native.Mathlib.Omega.{arith}
use Rattle.judging.proofs.Chain.{linked}
use Rattle.judging.proofs.index.link.Goals as goal

pub returns : goal.returns
returns c = linked c.args.work.now c.args.slots.now c.args.slot c.args.n c.link_at-before.result (omega arith) (omega arith) c.link_at-before.ensures.0
