-- At the loop's head what is behind e is cut off. Assumes nothing.
use Rattle.names.proofs.Trim.{Trimming}
use Rattle.names.proofs.lines.trim.Given as goal

abbrev pub invariant-loop-e : goal.invariant-loop-e
invariant-loop-e l = Trimming l.line l.e

abbrev pub decreases-loop-e : goal.decreases-loop-e
decreases-loop-e l = l.e
