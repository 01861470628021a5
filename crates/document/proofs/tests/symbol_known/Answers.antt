-- `document::tests::symbol_known` meets its contract. Assumes nothing.
use Rattle.document.specs.Check.{known?}
use Rattle.document.proofs.tests.symbol_known.Goals as goal

pub returns : goal.returns
unfolding known?
returns c = cc
