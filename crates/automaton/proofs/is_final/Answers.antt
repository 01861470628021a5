-- `automaton::is_final` meets its contract: an unknown state has what nothing has. Assumes nothing.
use Rattle.automaton.proofs.Decode.{reads}
use Rattle.automaton.proofs.is_final.Goals as goal

pub returns-then-q-header_word : goal.returns-then-q-header_word
returns-then-q-header_word c = search reads

pub returns-else-q-header_word : goal.returns-else-q-header_word
returns-else-q-header_word c = search reads
