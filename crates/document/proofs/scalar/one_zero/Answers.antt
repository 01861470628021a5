-- `document::scalar::one_zero` meets its contract. Assumes nothing.
use borrow.Author.Tests.{eq-eqb, ne_eqb}
use Rattle.model.specs.Table.{one_zero}
use Rattle.document.proofs.scalar.one_zero.Goals as goal

pub returns-then-bits-eq-MINUS_ZERO : goal.returns-then-bits-eq-MINUS_ZERO
unfolding one_zero
returns-then-bits-eq-MINUS_ZERO c = rw (eq-eqb _ _ c.if-bits-eq-MINUS_ZERO.true)

pub returns-else-bits-eq-MINUS_ZERO : goal.returns-else-bits-eq-MINUS_ZERO
unfolding one_zero
returns-else-bits-eq-MINUS_ZERO c = rw (ne_eqb _ _ c.if-bits-eq-MINUS_ZERO.false)
