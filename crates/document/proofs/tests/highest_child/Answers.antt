use Rattle.document.proofs.Heights.{rising}
use Rattle.document.proofs.tests.highest_child.Goals as goal

pub loop-k-init : goal.loop-k-init
loop-k-init c = search rising

pub returns-then-c : goal.returns-then-c
returns-then-c c = search rising

pub loop-k-preserved : goal.loop-k-preserved
loop-k-preserved c = search rising

pub returns : goal.returns
returns c = search rising
