-- `automaton::rule_symbol` meets its contract: an unknown rule has what nothing has. Assumes nothing.
use Rattle.automaton.proofs.Decode.{reads}
use Rattle.automaton.proofs.rule_symbol.Goals as goal

pub returns-then-i-rules : goal.returns-then-i-rules
returns-then-i-rules c = search reads
