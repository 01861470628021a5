use Rattle.document.proofs.Numbers.{numbers}
use Rattle.document.proofs.Marking.{markings, rows_marked}
use Rattle.document.proofs.tests.WholeRows.all_used.Goals as goal

pub loop-j-init : goal.loop-j-init
loop-j-init c = search markings

pub loop-j-preserved : goal.loop-j-preserved
loop-j-preserved c = search (numbers, markings)

pub returns : goal.returns
returns c = search (rows_marked, markings)
