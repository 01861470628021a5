use Rattle.judging.proofs.Places.{tests}
use Rattle.judging.proofs.memory.same.Goals as goal

pub loop-k-init : goal.loop-k-init
loop-k-init c = search tests

pub loop-k-preserved : goal.loop-k-preserved
loop-k-preserved c = search tests

pub returns : goal.returns
returns c = search tests
