-- A digit's low four bits are its value. Assumes nothing.
use native.Mathlib.Omega.{arith}
use Rattle.classes.proofs.Ranges.{digit_range}
use Rattle.jsontext.proofs.digits.digit_value.Goals as goal

pub returns : goal.returns
returns c = record { few = omega arith; value = λ e. omega (arith, digit_range _ e) }
