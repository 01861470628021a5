-- `automaton::tests::symbol` meets its contract: the comparison is the definition's. Assumes nothing.
use Rattle.automaton.specs.Check.{symbol_ok}
use Rattle.automaton.proofs.tests.symbol.Goals as goal

pub returns : goal.returns
unfolding symbol_ok
returns c = cc
