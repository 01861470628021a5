-- `automaton::tests::key` meets its contract: the tests are the definition's. Assumes nothing.
use borrow.Author.Tests.{eq-eqb, ne_eqb, le-leb, lt-leb}
use Rattle.automaton.specs.Check.{key_word}
use Rattle.automaton.proofs.tests.key.Goals as goal

pub returns-then-k-eq0 : goal.returns-then-k-eq0
unfolding key_word
returns-then-k-eq0 c = rw (eq-eqb _ _ c.if-k-eq0.true) c.word.ensures

pub returns-then-k-le-MAX_CHILDREN : goal.returns-then-k-le-MAX_CHILDREN
unfolding key_word
returns-then-k-le-MAX_CHILDREN c = rw (ne_eqb _ _ c.if-k-eq0.false, le-leb _ _ c.if-k-le-MAX_CHILDREN.true) c.place.ensures

pub returns : goal.returns
unfolding key_word
returns c = rw (ne_eqb _ _ c.if-k-eq0.false, lt-leb _ _ c.if-k-le-MAX_CHILDREN.false) c.word-2.ensures
