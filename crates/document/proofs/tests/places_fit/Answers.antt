-- `document::tests::places_fit` meets its contract: every place is asked. Assumes nothing.
use borrow.Author.Tests.{tests}
use Rattle.std.proofs.Common.{rules}
use Rattle.model.proofs.Ranges.{all_in_range}
use mathlib.Core.Path.{refl}
use Rattle.model.specs.Limits.{max_children}
use Rattle.document.specs.Check.{child?}
use Rattle.document.proofs.tests.places_fit.Goals as goal

pub returns : goal.returns
returns c = all_in_range (child? c.args.rows.now c.args.i.0 c.args.arity) max_children _ _ _ refl c.all.ensures.ran (λ x b q k. search (rules, tests))
