-- `automaton::tests::forgets` meets its contract: the comparison is the definition's. Assumes nothing.
use Rattle.automaton.specs.Check.{forget_ok}
use Rattle.automaton.proofs.tests.forgets.Goals as goal

pub returns : goal.returns
unfolding forget_ok
returns c = cc
