-- `automaton::layout::state_width` meets its contract: each form has its width. Assumes nothing.
use Rattle.automaton.specs.Form.{tags_width, state_width}
use native.Mathlib.Omega.{arith}
use Rattle.automaton.proofs.layout.state_width.Goals as goal

pub returns-in-Narrow : goal.returns-in-Narrow
unfolding state_width tags_width
returns-in-Narrow c = (rw c.in-Narrow.is, omega arith)

pub returns-in-Wide : goal.returns-in-Wide
unfolding state_width tags_width
returns-in-Wide c = (rw c.in-Wide.is, omega arith)

pub returns-in-Isolating : goal.returns-in-Isolating
unfolding state_width tags_width
returns-in-Isolating c = (rw c.in-Isolating.is, omega arith)
