-- `emptiness::building::Builder::remember` meets its contract. Assumes nothing.
use Rattle.emptiness.proofs.Puts.{puts}
use Rattle.emptiness.proofs.building.Builder.remember.Goals as goal

pub returns-then-at-ge-STATES : goal.returns-then-at-ge-STATES
returns-then-at-ge-STATES c = search puts

pub returns : goal.returns
returns c = search puts
