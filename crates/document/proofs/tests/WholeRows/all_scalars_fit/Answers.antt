-- `document::tests::WholeRows::all_scalars_fit` meets its contract: every row is asked. Assumes nothing.
use borrow.Author.Tests.{tests}
use Rattle.std.proofs.Common.{rules}
use Rattle.model.proofs.Ranges.{all_in_range}
use Rattle.automaton.specs.Stored.{decode}
use Rattle.document.specs.Check.{row_count, scalar_fits?}
use Rattle.document.proofs.tests.WholeRows.all_scalars_fit.Goals as goal

pub returns : goal.returns
returns c = all_in_range (scalar_fits? (decode c.args.set.now) c.args.self.now.rows.now) (row_count c.args.self.now.rows.now) _ _ _ c.args.self.now.counted c.all.ensures.ran (λ x b q k. search (rules, tests))
