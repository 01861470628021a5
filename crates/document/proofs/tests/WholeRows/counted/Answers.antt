-- `document::tests::WholeRows::counted` meets its contract. Assumes nothing.
use Rattle.document.specs.Check.{counted?}
use Rattle.document.proofs.tests.WholeRows.counted.Goals as goal

pub returns-then-n-rows-clause-told : goal.returns-then-n-rows-clause-told
unfolding counted?
returns-then-n-rows-clause-told c = cc

pub returns-clause-told : goal.returns-clause-told
unfolding counted?
returns-clause-told c = cc
