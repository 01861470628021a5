use Rattle.model.specs.WrittenTest.{known?}
use Rattle.model.proofs.Below.{at, loops}
use Rattle.automaton.specs.Stored.{decode}
use Rattle.document.specs.Rows.{decode_rows}
use Rattle.runs.specs.Steps.{decode_steps}
use Rattle.runs.proofs.tests.CountedRun.all_fit.Goals as goal

pub loop-i-init : goal.loop-i-init
loop-i-init c = search loops

pub invariant_of-step : goal.invariant_of-step
invariant_of-step c = record { known = at (known? (decode c.args.self.now.set.now) (decode_rows c.args.self.now.rows.now) (decode_steps c.args.self.now.run.now)) c.args.self.now.n c.loop-i.i c.requires c.loop-i-test.true }

pub returns-then-not-fits : goal.returns-then-not-fits
returns-then-not-fits c = search loops

pub loop-i-preserved : goal.loop-i-preserved
loop-i-preserved c = search loops
