-- `automaton::layout::rule_numbers` meets its contract: each form has its numbers. Assumes nothing.
use Rattle.automaton.specs.Form.{rule_numbers}
use native.Mathlib.Omega.{arith}
use Rattle.automaton.proofs.layout.rule_numbers.Goals as goal

pub returns-in-Narrow : goal.returns-in-Narrow
unfolding rule_numbers
returns-in-Narrow c = (rw c.in-Narrow.is, omega arith)

pub returns-in-Wide : goal.returns-in-Wide
unfolding rule_numbers
returns-in-Wide c = (rw c.in-Wide.is, omega arith)

pub returns-in-Isolating : goal.returns-in-Isolating
unfolding rule_numbers
returns-in-Isolating c = (rw c.in-Isolating.is, omega arith)
