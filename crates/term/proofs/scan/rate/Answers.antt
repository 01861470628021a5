-- The rate's bits, of which minus zero is taken for zero, or a fault. Assumes nothing.
use Prim.Native.Nat.{◌^◌}
use mathlib.Core.Path.{sym, ap, ◌∙◌}
use native.Mathlib.Omega.{arith}
use borrow.Author.Rules.{rules}
use Rattle.term.specs.Answer.{number_of}
use Rattle.base.proofs.Got.{read_is}
use Rattle.term.proofs.Scalars.{NumberFrom, hex_below, rate_number, rate_fault}
use Rattle.term.proofs.scan.rate.Goals as goal

pub returns-in_err-n : goal.returns-in_err-n
returns-in_err-n c = let e = rate_fault c.hex_bits.ensures _ c.in_err-n.was in search rules

pub returns : goal.returns
returns c =
    let small = read_is (NumberFrom (2 ^ 64) _) _ _ (sym c.hex_bits.ensures ∙ ap number_of c.in_ok-n.was) (hex_below _ 16 0 _ 0 (omega arith)) in
    rate_number c.hex_bits.ensures _ _ c.row_rate.ensures small.0 c.in_ok-n.was
