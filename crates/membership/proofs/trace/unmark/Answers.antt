use Rattle.membership.proofs.Marks.{unmarks}
use Rattle.membership.proofs.trace.unmark.Goals as goal

pub loop-j-preserved : goal.loop-j-preserved
loop-j-preserved c = search unmarks
