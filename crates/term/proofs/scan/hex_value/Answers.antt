-- A digit, else a to f. Assumes nothing.
use mathlib.Core.Path.{sym, ap, ◌∙◌}
use Prim.Native.Nat.{◌+◌}
use native.Mathlib.Omega.{arith}
use Rattle.term.proofs.Bytes.{low_hex, high_hex}
use Rattle.term.proofs.scan.hex_value.Goals as goal

pub overflow_sub-b : goal.overflow_sub-b
overflow_sub-b c = omega (arith, low_hex _ (sym (c.is_digit.ensures.compared c.args.source.now.lent) ∙ c.if-is_digit.true))

pub returns-then-is_digit : goal.returns-then-is_digit
returns-then-is_digit c =
    let r = low_hex _ (sym (c.is_digit.ensures.compared c.args.source.now.lent) ∙ c.if-is_digit.true) in
    (c.from.ensures ∙ r.1, omega arith)

pub overflow_sub-b-2 : goal.overflow_sub-b-2
overflow_sub-b-2 c = omega (arith, high_hex _ c.requires (sym (c.is_digit.ensures.compared c.args.source.now.lent) ∙ c.if-is_digit.false))

pub returns : goal.returns
returns c =
    let r = high_hex _ c.requires (sym (c.is_digit.ensures.compared c.args.source.now.lent) ∙ c.if-is_digit.false) in
    (ap (◌+ 10) c.from-2.ensures ∙ r.1, omega arith)
