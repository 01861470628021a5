use Rattle.automaton.proofs.Loops.{fills}
use Rattle.membership.proofs.trace.places_of.Goals as goal

pub loop-p-preserved : goal.loop-p-preserved
loop-p-preserved c = search fills
