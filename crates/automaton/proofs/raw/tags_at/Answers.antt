-- `automaton::raw::tags_at` meets its contract: a byte or a number, as the form has it. Assumes nothing.
use Rattle.automaton.specs.Stored.{tags_at}
use Rattle.automaton.proofs.raw.tags_at.Goals as goal

pub returns-in-Narrow : goal.returns-in-Narrow
unfolding tags_at
returns-in-Narrow c = rw c.in-Narrow.is c.byte_at.ensures.0

pub returns-in-Wide : goal.returns-in-Wide
unfolding tags_at
returns-in-Wide c = rw c.in-Wide.is c.header_word.ensures

pub returns-in-Isolating : goal.returns-in-Isolating
unfolding tags_at
returns-in-Isolating c = rw c.in-Isolating.is c.header_word-in-Isolating.ensures
