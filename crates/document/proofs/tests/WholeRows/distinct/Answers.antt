-- `document::tests::WholeRows::distinct` meets its contract. Assumes nothing.
use Rattle.automaton.proofs.Verdict.{verdicts}
use Rattle.document.specs.Check.{distinct_check_of}
use Rattle.document.proofs.tests.WholeRows.distinct.Goals as goal

pub returns-then-all_distinct : goal.returns-then-all_distinct
unfolding distinct_check_of
returns-then-all_distinct c = search verdicts

pub returns-else-all_distinct : goal.returns-else-all_distinct
unfolding distinct_check_of
returns-else-all_distinct c = search verdicts
