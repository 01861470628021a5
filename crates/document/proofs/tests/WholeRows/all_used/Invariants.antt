-- `document::tests::WholeRows::all_used` meets its contract: after the rows below j the marks are those that they make. Assumes nothing.
use Rattle.model.specs.Limits.{max_rows}
use Rattle.document.specs.Rows.{places_in}
use Rattle.document.proofs.Marking.{MarkedBelow}
use Rattle.document.proofs.tests.WholeRows.all_used.Given as goal

abbrev pub invariant-loop-j : goal.invariant-loop-j
invariant-loop-j l = MarkedBelow (places_in l.self.rows.now) l.self.n max_rows l.used l.j
