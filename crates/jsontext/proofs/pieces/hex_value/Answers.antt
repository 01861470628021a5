-- The sum is the value. Assumes nothing.
use mathlib.Core.Path.{◌∙◌}
use borrow.Author.Rules.{rules}
use native.Mathlib.Omega.{arith}
use Rattle.jsontext.proofs.HexDigits.{sum_value}
use Rattle.jsontext.proofs.pieces.hex_value.Goals as goal

pub returns : goal.returns
returns c = record { few = omega arith; value = λ e. c.from.ensures ∙ sum_value _ (search rules) e }
