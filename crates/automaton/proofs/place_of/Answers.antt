-- `automaton::place_of` meets its contract: the test is the definition's. Assumes nothing.
use borrow.Author.Tests.{lt-ltb, le-ltb}
use Rattle.automaton.specs.Stored.{place_of}
use Rattle.automaton.proofs.place_of.Goals as goal

pub returns-then-k-n : goal.returns-then-k-n
unfolding place_of
returns-then-k-n c = rw (lt-ltb _ _ c.if-k-n.true) c.place.ensures

pub returns-else-k-n : goal.returns-else-k-n
unfolding place_of
returns-else-k-n c = rw (le-ltb _ _ c.if-k-n.false)
