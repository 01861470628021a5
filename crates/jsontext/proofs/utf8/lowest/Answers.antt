-- The definition's tests. Assumes nothing.
use borrow.Author.Tests.{eq-eqb, ne_eqb}
use Rattle.jsontext.specs.Lead.{lowest}
use Rattle.jsontext.proofs.utf8.lowest.Goals as goal

pub returns-then-b-eq224 : goal.returns-then-b-eq224
unfolding lowest
returns-then-b-eq224 c = rw (eq-eqb _ _ c.if-b-eq224.true)

pub returns-then-b-eq240 : goal.returns-then-b-eq240
unfolding lowest
returns-then-b-eq240 c = rw (ne_eqb _ _ c.if-b-eq224.false, eq-eqb _ _ c.if-b-eq240.true)

pub returns : goal.returns
unfolding lowest
returns c = rw (ne_eqb _ _ c.if-b-eq224.false, ne_eqb _ _ c.if-b-eq240.false)
