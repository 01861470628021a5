-- `document::tests::WholeRows::all_distinct` meets its contract: the rows below j equal no earlier one, and the slots index them. Assumes nothing.
use Rattle.document.proofs.Entering.{Entered}
use Rattle.document.proofs.tests.WholeRows.all_distinct.Given as goal

abbrev pub invariant-loop-j : goal.invariant-loop-j
invariant-loop-j l = Entered l.self.rows.now l.self.n l.slots l.j
