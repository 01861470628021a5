-- `document::tests::children_fit` meets its contract. Assumes nothing.
use Rattle.document.specs.Check.{children?}
use Rattle.document.proofs.tests.children_fit.Goals as goal

pub returns : goal.returns
unfolding children?
returns c = cc
