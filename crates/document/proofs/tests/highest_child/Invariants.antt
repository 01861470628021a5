-- `document::tests::highest_child` meets its contract: the invariant says what the places from k on can still add. Assumes nothing.
use Rattle.document.proofs.Heights.{Rising}
use Rattle.document.proofs.tests.highest_child.Given as goal

abbrev pub invariant-loop-k : goal.invariant-loop-k
invariant-loop-k l = Rising l.rows l.heights l.i.0 l.h l.k
