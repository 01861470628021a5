-- The sign is put on after the division. Assumes nothing.
use mathlib.Core.Path.{ap, ◌∙◌}
use native.Mathlib.Omega.{arith}
use lib.Ieee.{neg}
use Rattle.jsontext.specs.Number.{quotient, rate}
use Rattle.jsontext.proofs.Rates.{power_below}
use Rattle.jsontext.proofs.rate.rate.Goals as goal

pub returns-then-negative : goal.returns-then-negative
unfolding rate
returns-then-negative c = rw c.if-negative.true (ap neg (c.quotient-x.ensures ∙ ap (quotient _) c.pow.ensures))

pub returns-else-negative : goal.returns-else-negative
unfolding rate
returns-else-negative c = rw c.if-negative.false (c.quotient-x.ensures ∙ ap (quotient _) c.pow.ensures)

pub quotient-x-requires : goal.quotient-x-requires
quotient-x-requires c = let k = power_below c.args.places 15 c.requires.1 in (c.requires.0, omega (arith, c.pow.ensures))
