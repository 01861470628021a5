use Rattle.judging.proofs.Chain.{walks}
use Rattle.judging.proofs.index.is_known.Goals as goal

pub loop-i-init : goal.loop-i-init
loop-i-init c = search walks

pub returns-then-is_same : goal.returns-then-is_same
returns-then-is_same c = search walks

pub loop-i-preserved : goal.loop-i-preserved
loop-i-preserved c = search walks

pub returns : goal.returns
returns c = search walks
