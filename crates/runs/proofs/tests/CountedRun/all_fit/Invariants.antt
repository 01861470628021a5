-- `runs::tests::CountedRun::all_fit` meets its contract. Assumes nothing.
use lib.ListN.{length}
use Rattle.model.specs.WrittenTest.{step_fits?}
use Rattle.model.proofs.Below.{Passed}
use Rattle.automaton.specs.Stored.{decode}
use Rattle.document.specs.Rows.{decode_rows}
use Rattle.runs.specs.Steps.{place_in, decode_steps}
use Rattle.runs.proofs.tests.CountedRun.all_fit.Given as goal

abbrev pub invariant-loop-i : goal.invariant-loop-i
invariant-loop-i l = Passed (step_fits? (decode l.self.set.now) (decode_rows l.self.rows.now) (decode_steps l.self.run.now) (place_in l.self.run.now)) (length (decode_steps l.self.run.now)) l.self.n l.i
