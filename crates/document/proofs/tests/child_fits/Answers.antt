-- `document::tests::child_fits` meets its contract. Assumes nothing.
use Rattle.document.specs.Check.{child?}
use Rattle.document.proofs.tests.child_fits.Goals as goal

pub returns : goal.returns
unfolding child?
returns c = cc
