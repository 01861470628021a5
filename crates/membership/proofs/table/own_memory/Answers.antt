use Rattle.membership.proofs.Own.{own_at, masking_all, masks}
use Rattle.membership.proofs.table.own_memory.Goals as goal

pub loop-k-preserved : goal.loop-k-preserved
loop-k-preserved c = search masks

pub returns : goal.returns
returns c = masking_all c.args.mask (own_at c.args.row.0) c.args.tags c.loop-k.out c.loop-k.rest c.loop-k.k c.loop-k.invariant c.loop-k-test.false
