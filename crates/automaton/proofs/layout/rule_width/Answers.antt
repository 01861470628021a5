-- `automaton::layout::rule_width` meets its contract: two bytes a number. Assumes nothing.
use mathlib.Core.Path.{ap}
use Prim.Native.Nat.{ℕ, ◌*◌}
use native.Mathlib.Omega.{arith}
use Rattle.automaton.specs.Form.{rule_width}
use Rattle.automaton.proofs.layout.rule_width.Goals as goal

pub returns : goal.returns
unfolding rule_width
returns c = (ap (λ (x : ℕ). 2 * x) c.rule_numbers.ensures.0, omega (arith, c.rule_numbers.ensures.1))
