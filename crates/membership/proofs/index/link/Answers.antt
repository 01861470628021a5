-- `membership::index::link` meets its contract. Assumes nothing.
use native.Mathlib.Omega.{arith}
use lib.ListN.{length-set}
use Rattle.membership.proofs.Chain.{linked}
use Rattle.membership.proofs.index.link.Goals as goal

pub bounds-work-first : goal.bounds-work-first
bounds-work-first c = simp length-set (omega arith)

pub returns : goal.returns
returns c = linked c.args.work.now c.args.slot c.args.n c.link_at-before.result (omega arith) (omega arith) c.link_at-before.ensures.0
