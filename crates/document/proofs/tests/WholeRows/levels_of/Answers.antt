use Rattle.document.proofs.Heights.{rising}
use Rattle.document.proofs.tests.WholeRows.levels_of.Goals as goal

pub overflow_add-heights : goal.overflow_add-heights
overflow_add-heights c = search rising

pub loop-i-preserved : goal.loop-i-preserved
loop-i-preserved c = search rising

pub returns : goal.returns
returns c = search rising
