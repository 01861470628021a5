-- `automaton::tests::counts` meets its contract: each comparison is the definition's. Assumes nothing.
use Rattle.automaton.specs.Check.{counts_ok}
use Rattle.automaton.proofs.tests.counts.Goals as goal

pub returns : goal.returns
unfolding counts_ok
returns c = cc
