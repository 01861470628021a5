-- `automaton::copy::moved_up` meets its contract: a shift is a product. Assumes nothing.
use Rattle.automaton.proofs.Shifted.{moved_out}
use Rattle.automaton.proofs.copy.moved_up.Goals as goal

pub returns-else-t-lt16 : goal.returns-else-t-lt16
returns-else-t-lt16 c = moved_out _ _ c.if-t-lt16.false
