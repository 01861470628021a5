-- `automaton::layout::tag_bits` meets its contract: each form has its bits. Assumes nothing.
use Rattle.automaton.specs.Form.{tags_width}
use Rattle.automaton.proofs.layout.tag_bits.Goals as goal

pub returns-in-Narrow : goal.returns-in-Narrow
unfolding tags_width
returns-in-Narrow c = rw c.in-Narrow.is

pub returns-in-Wide : goal.returns-in-Wide
unfolding tags_width
returns-in-Wide c = rw c.in-Wide.is

pub returns-in-Isolating : goal.returns-in-Isolating
unfolding tags_width
returns-in-Isolating c = rw c.in-Isolating.is
