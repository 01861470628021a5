use Rattle.membership.proofs.Own.{own_at}
use Rattle.judging.proofs.Own.{own_nothing, masking_all, masks}
use Rattle.judging.proofs.Rowing.{zeros}
use Rattle.judging.proofs.table.own_memory.Goals as goal

ruleset filling = (zeros, masks)

pub returns-then-mask-eq0 : goal.returns-then-mask-eq0
returns-then-mask-eq0 c = own_nothing c.args.row.0 c.args.tags _ c.args.mask c.if-mask-eq0.true (zeros 16)

pub loop-k-preserved : goal.loop-k-preserved
loop-k-preserved c = search filling

pub returns : goal.returns
returns c = masking_all c.args.mask (own_at c.args.row.0) c.args.tags c.loop-k.out c.loop-k.rest c.loop-k.k c.loop-k.invariant c.loop-k-test.false
