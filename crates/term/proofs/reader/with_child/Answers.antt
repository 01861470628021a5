-- By the test. Assumes nothing.
use borrow.Author.Tests.{lt-ltb, le-ltb}
use Rattle.term.proofs.reader.with_child.Goals as goal

pub returns-then-k-ge-PLACES : goal.returns-then-k-ge-PLACES
returns-then-k-ge-PLACES c = rw (le-ltb c.args.k 4 c.if-k-ge-PLACES.true)

pub returns : goal.returns
returns c = rw (lt-ltb c.args.k 4 c.if-k-ge-PLACES.false)
