-- A digit is 48 to 57. Assumes nothing.
use native.Mathlib.Omega.{arith}
use Rattle.term.proofs.Bytes.{digit_range}
use Rattle.term.proofs.scan.digit_value.Goals as goal

pub overflow_sub-b : goal.overflow_sub-b
overflow_sub-b c = omega (arith, digit_range _ c.requires)

pub returns : goal.returns
returns c = (c.from.ensures, omega (arith, digit_range _ c.requires))
