use Prim.Native.Nat.{◌+◌}
use native.Mathlib.Omega.{arith}
use Rattle.names.specs.Names.{name_byte?}
use Rattle.term.specs.Scan.{name_bytes}
use Rattle.term.proofs.Bytes.{name_inside}
use Rattle.base.proofs.Leading.{led_none, led_more, led_stop, led_all}
use Rattle.term.proofs.scan.name_bytes.Goals as goal

pub loop-n-init : goal.loop-n-init
loop-n-init c = (led_none _ _, omega arith)

pub returns-then-not-is_letter_or_digit : goal.returns-then-not-is_letter_or_digit
unfolding name_bytes name_byte?
returns-then-not-is_letter_or_digit c = led_stop _ _ _ c.loop-n.invariant.0 (omega arith) (let e = c.is_letter_or_digit.ensures.compared c.args.source.now.lent in cc c.if-not-is_letter_or_digit.true)

pub loop-n-preserved : goal.loop-n-preserved
unfolding name_byte?
loop-n-preserved c =
    let e = c.is_letter_or_digit.ensures.compared c.args.source.now.lent in
    let inside = name_inside c.args.source.now.text.now (c.args.at + c.loop-n.n) (cc c.if-not-is_letter_or_digit.false) in
    (led_more _ _ _ c.loop-n.invariant.0 (omega arith) (cc c.if-not-is_letter_or_digit.false), omega (arith, inside))

pub returns : goal.returns
unfolding name_bytes
returns c = let n = led_all _ _ _ c.loop-n.invariant.0 (omega arith) in omega arith
