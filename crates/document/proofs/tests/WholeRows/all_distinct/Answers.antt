use Rattle.document.proofs.Entering.{entering}
use Rattle.document.proofs.tests.WholeRows.all_distinct.Goals as goal

pub loop-j-init : goal.loop-j-init
loop-j-init c = search entering

pub returns-in-Found : goal.returns-in-Found
returns-in-Found c = search entering

pub returns-in-Crowded : goal.returns-in-Crowded
returns-in-Crowded c = search entering

pub offset_bounds-slots-t : goal.offset_bounds-slots-t
offset_bounds-slots-t c = search entering

pub bounds-slots-t : goal.bounds-slots-t
bounds-slots-t c = search entering

pub loop-j-preserved : goal.loop-j-preserved
loop-j-preserved c = search entering
