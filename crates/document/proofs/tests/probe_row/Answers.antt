-- `document::tests::probe_row` meets its contract. Assumes nothing.
use Rattle.document.proofs.Entering.{entering}
use Rattle.document.proofs.tests.probe_row.Goals as goal

pub returns : goal.returns
returns c = search entering
