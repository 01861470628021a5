-- `runs::tests::KnownStep::places_fit` meets its contract: every place is asked. Assumes nothing.
use borrow.Author.Tests.{tests}
use mathlib.Core.Path.{refl}
use Rattle.std.proofs.Common.{rules}
use Rattle.model.specs.Limits.{max_children}
use Rattle.model.specs.WrittenTest.{place_fits?}
use Rattle.model.proofs.Ranges.{all_in_range}
use Rattle.automaton.specs.Stored.{decode}
use Rattle.document.specs.Rows.{decode_rows}
use Rattle.runs.specs.Steps.{place_in, decode_steps}
use Rattle.runs.proofs.tests.KnownStep.places_fit.Goals as goal

pub returns : goal.returns
returns c = all_in_range (λ k. place_fits? (decode c.args.self.now.of.set.now) (decode_rows c.args.self.now.of.rows.now) (decode_steps c.args.self.now.of.run.now) c.args.self.now.i.0 k (place_in c.args.self.now.of.run.now c.args.self.now.i.0 k)) max_children _ _ _ refl c.all.ensures.ran (λ x b q k. search (rules, tests))
