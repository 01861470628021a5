-- `automaton::rule_forget` meets its contract: an unknown rule forgets nothing. Assumes nothing.
use Rattle.automaton.proofs.Decode.{reads}
use Rattle.automaton.proofs.rule_forget.Goals as goal

pub returns-then-i-rules : goal.returns-then-i-rules
returns-then-i-rules c = search reads
