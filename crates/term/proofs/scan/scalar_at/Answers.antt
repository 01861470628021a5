-- Each way through the definition. Assumes nothing.
use mathlib.Core.Path.{sym, ◌∙◌}
use native.Mathlib.Omega.{arith}
use Rattle.base.proofs.Bytes.{byte_inside}
use Rattle.term.proofs.Scalars.{scalar_value, scalar_rate, scalar_name, scalar_bare}
use Rattle.term.proofs.scan.scalar_at.Goals as goal

pub overflow_add-at : goal.overflow_add-at
overflow_add-at c = omega (arith, byte_inside c.args.source.now.text.now c.args.at c.byte_at-b.result c.byte_at-b.ensures (omega arith))

pub returns-then-b-eq61 : goal.returns-then-b-eq61
returns-then-b-eq61 c = c.value.ensures ∙ sym (scalar_value _ _ _ c.byte_at-b.ensures c.if-b-eq61.true)

pub overflow_add-at-then-b-eq126 : goal.overflow_add-at-then-b-eq126
overflow_add-at-then-b-eq126 c = omega (arith, byte_inside c.args.source.now.text.now c.args.at c.byte_at-b.result c.byte_at-b.ensures (omega arith))

pub returns-then-b-eq126 : goal.returns-then-b-eq126
returns-then-b-eq126 c = c.rate.ensures ∙ sym (scalar_rate _ _ _ c.byte_at-b.ensures c.if-b-eq61.false c.if-b-eq126.true)

pub overflow_add-at-then-b-eq35 : goal.overflow_add-at-then-b-eq35
overflow_add-at-then-b-eq35 c = omega (arith, byte_inside c.args.source.now.text.now c.args.at c.byte_at-b.result c.byte_at-b.ensures (omega arith))

pub returns-then-b-eq35 : goal.returns-then-b-eq35
returns-then-b-eq35 c = c.name_number.ensures ∙ sym (scalar_name _ _ _ c.byte_at-b.ensures c.if-b-eq61.false c.if-b-eq126.false c.if-b-eq35.true)

pub returns : goal.returns
returns c = scalar_bare _ _ _ c.byte_at-b.ensures c.if-b-eq61.false c.if-b-eq126.false c.if-b-eq35.false
