-- `automaton::tests::state` meets its contract: each comparison is the definition's. Assumes nothing.
use Rattle.automaton.specs.Check.{state_ok}
use Rattle.automaton.proofs.tests.state.Goals as goal

pub returns : goal.returns
unfolding state_ok
returns c = cc
