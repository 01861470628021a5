use Rattle.membership.proofs.Own.{masks}
use Rattle.membership.proofs.memory.kept.Goals as goal

pub loop-k-preserved : goal.loop-k-preserved
loop-k-preserved c = search masks

pub returns : goal.returns
returns c = search masks
