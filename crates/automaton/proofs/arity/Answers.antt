-- `automaton::arity` meets its contract: an unknown symbol has what nothing has. Assumes nothing.
use Rattle.automaton.proofs.Decode.{reads}
use Rattle.automaton.proofs.arity.Goals as goal

pub returns-then-symbol-header_word : goal.returns-then-symbol-header_word
returns-then-symbol-header_word c = search reads

pub returns-else-symbol-header_word : goal.returns-else-symbol-header_word
returns-else-symbol-header_word c = search reads
