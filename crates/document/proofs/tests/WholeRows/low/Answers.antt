-- `document::tests::WholeRows::low` meets its contract. Assumes nothing.
use borrow.Author.Rules.{rules}
use Rattle.document.specs.Check.{levels_check_of}
use Rattle.document.proofs.Refusals.{kept, over}
use Rattle.document.proofs.tests.WholeRows.low.Goals as goal

pub returns-then-levels_of-le-MAX_LEVELS : goal.returns-then-levels_of-le-MAX_LEVELS
unfolding levels_check_of
returns-then-levels_of-le-MAX_LEVELS c = search (kept, rules)

pub returns-else-levels_of-le-MAX_LEVELS : goal.returns-else-levels_of-le-MAX_LEVELS
unfolding levels_check_of
returns-else-levels_of-le-MAX_LEVELS c = search (over, rules)
