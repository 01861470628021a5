use Rattle.judging.proofs.Own.{kept_all, nothing_dropped, masks}
use Rattle.judging.proofs.Rowing.{zeros}
use Rattle.judging.proofs.memory.kept.Goals as goal

ruleset filling = (zeros, masks)

pub returns-then-mask-eq0 : goal.returns-then-mask-eq0
returns-then-mask-eq0 c = (nothing_dropped c.args.mask c.args.tags c.args.memory.now c.if-mask-eq0.true, c.requires.1)

pub loop-k-preserved : goal.loop-k-preserved
loop-k-preserved c = search filling

pub returns : goal.returns
returns c = kept_all c.args.mask c.args.tags c.args.memory.now c.loop-k.out c.loop-k.rest c.loop-k.k c.loop-k.invariant c.loop-k-test.false
