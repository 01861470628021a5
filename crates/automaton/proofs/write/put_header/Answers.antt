-- `automaton::write::put_header` meets its contract: a header is its numbers in their order. Assumes nothing.
use Rattle.automaton.proofs.Words.{header_words}
use Rattle.automaton.proofs.write.put_header.Goals as goal

pub returns : goal.returns
returns c = rw (← header_words c.args.form c.args.symbols c.args.states c.args.tags c.args.rules _ _ _ _ _ _ c.states_offset.ensures.0 c.rules_offset.ensures.0 c.total_length.ensures c.cut-states_at.ensures c.cut-rules_at.ensures c.cut-total.ensures) c.put_words.ensures
