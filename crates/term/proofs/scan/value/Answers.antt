-- Each way through the definition. Assumes nothing.
use mathlib.Core.Path.{sym, ◌∙◌}
use native.Mathlib.Omega.{arith}
use borrow.Author.Rules.{rules}
use Rattle.base.proofs.Bytes.{byte_inside}
use Rattle.term.proofs.Scalars.{value_true, value_false, value_count, kind_number, kind_fault}
use Rattle.term.proofs.scan.value.Goals as goal

pub flag-requires : goal.flag-requires
flag-requires c = omega (arith, byte_inside c.args.source.now.text.now c.args.at c.byte_at-b.result c.byte_at-b.ensures (omega arith))

pub returns-then-b-eq116 : goal.returns-then-b-eq116
returns-then-b-eq116 c = c.flag.ensures ∙ sym (value_true _ _ _ c.byte_at-b.ensures c.if-b-eq116.true)

pub flag-requires-then-b-eq102 : goal.flag-requires-then-b-eq102
flag-requires-then-b-eq102 c = omega (arith, byte_inside c.args.source.now.text.now c.args.at c.byte_at-b.result c.byte_at-b.ensures (omega arith))

pub returns-then-b-eq102 : goal.returns-then-b-eq102
returns-then-b-eq102 c = c.flag-then-b-eq102.ensures ∙ sym (value_false _ _ _ c.byte_at-b.ensures c.if-b-eq116.false c.if-b-eq102.true)

pub returns-in_err-n : goal.returns-in_err-n
returns-in_err-n c =
    let e = kind_fault c.number.ensures 2 _ c.in_err-n.was ∙ sym (value_count _ _ _ c.byte_at-b.ensures c.if-b-eq116.false c.if-b-eq102.false) in
    search rules

pub returns : goal.returns
returns c =
    kind_number c.number.ensures 2 _ c.in_ok-n.was
    ∙ sym (value_count _ _ _ c.byte_at-b.ensures c.if-b-eq116.false c.if-b-eq102.false)
