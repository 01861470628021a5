-- `automaton::rule_target` meets its contract: an unknown rule has what nothing has. Assumes nothing.
use Rattle.automaton.proofs.Decode.{reads}
use Rattle.automaton.proofs.rule_target.Goals as goal

pub returns-then-i-rules : goal.returns-then-i-rules
returns-then-i-rules c = search reads
