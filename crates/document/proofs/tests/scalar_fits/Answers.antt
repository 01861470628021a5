-- `document::tests::scalar_fits` meets its contract. Assumes nothing.
use Rattle.document.specs.Check.{scalar_fits?}
use Rattle.document.proofs.tests.scalar_fits.Goals as goal

pub returns : goal.returns
unfolding scalar_fits?
returns c = cc
