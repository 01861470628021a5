use Rattle.automaton.specs.Check.{ascends_at}
use Rattle.automaton.proofs.Loops.{levels}
use Rattle.automaton.proofs.tests.ascends.Goals as goal

pub returns-then-x-y : goal.returns-then-x-y
unfolding ascends_at
returns-then-x-y c = search levels

pub returns-then-y-x : goal.returns-then-y-x
unfolding ascends_at
returns-then-y-x c = search levels

pub returns : goal.returns
unfolding ascends_at
returns c = search levels
