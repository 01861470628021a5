use Rattle.membership.proofs.Hashing.{hashes}
use Rattle.membership.proofs.index.slot_of.Goals as goal

pub loop-k-init : goal.loop-k-init
loop-k-init c = search hashes

pub loop-k-preserved : goal.loop-k-preserved
loop-k-preserved c = search hashes

pub returns : goal.returns
returns c = search hashes
