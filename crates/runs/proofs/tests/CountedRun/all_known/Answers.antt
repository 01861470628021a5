-- `runs::tests::CountedRun::all_known` meets its contract: every step is asked. Assumes nothing.
use borrow.Author.Tests.{tests}
use lib.ListN.{length}
use Rattle.std.proofs.Common.{rules}
use Rattle.model.specs.WrittenTest.{known?}
use Rattle.model.proofs.Ranges.{all_in_range}
use Rattle.automaton.specs.Stored.{decode}
use Rattle.document.specs.Rows.{decode_rows}
use Rattle.runs.specs.Steps.{decode_steps}
use Rattle.runs.proofs.tests.CountedRun.all_known.Goals as goal

pub returns : goal.returns
returns c = all_in_range (known? (decode c.args.self.now.set.now) (decode_rows c.args.self.now.rows.now) (decode_steps c.args.self.now.run.now)) (length (decode_steps c.args.self.now.run.now)) _ _ _ c.args.self.now.steps c.all.ensures.ran (λ x b q k. search (rules, tests))
