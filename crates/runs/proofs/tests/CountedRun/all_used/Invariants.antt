-- `runs::tests::CountedRun::all_used` meets its contract: after the steps below j the marks are those that they make. Assumes nothing.
use Rattle.model.specs.Limits.{max_steps}
use Rattle.document.proofs.Marking.{MarkedBelow}
use Rattle.runs.specs.Steps.{places_in}
use Rattle.runs.proofs.tests.CountedRun.all_used.Given as goal

abbrev pub invariant-loop-j : goal.invariant-loop-j
invariant-loop-j l = MarkedBelow (places_in l.self.run.now) l.self.n max_steps l.marks l.j
