use Rattle.emptiness.proofs.Marks.{rounding}
use Rattle.emptiness.proofs.marking.Round.first.Goals as goal

pub loop-i-init : goal.loop-i-init
loop-i-init c = search rounding

pub loop-i-preserved : goal.loop-i-preserved
loop-i-preserved c = search rounding
