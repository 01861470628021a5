-- `automaton::tests::offsets` meets its contract: each comparison is the definition's. Assumes nothing.
use Rattle.automaton.specs.Check.{offsets_ok}
use Rattle.automaton.proofs.tests.offsets.Goals as goal

pub returns : goal.returns
unfolding offsets_ok
returns c = cc
