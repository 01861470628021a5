-- `document::tests::WholeRows::used` meets its contract. Assumes nothing.
use Rattle.automaton.proofs.Verdict.{verdicts}
use Rattle.document.specs.Check.{used_check_of}
use Rattle.document.proofs.tests.WholeRows.used.Goals as goal

pub returns-then-all_used : goal.returns-then-all_used
unfolding used_check_of
returns-then-all_used c = search verdicts

pub returns-else-all_used : goal.returns-else-all_used
unfolding used_check_of
returns-else-all_used c = search verdicts
