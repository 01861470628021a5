-- `document::tests::WholeRows::levels_of` meets its contract: each row's height is one more than its highest child's. Assumes nothing.
use Prim.Native.Nat.{◌≤◌}
use Rattle.document.specs.Rows.{decode_rows}
use Rattle.document.proofs.Heights.{HeightsBelow}
use Rattle.document.proofs.tests.WholeRows.levels_of.Given as goal

abbrev pub invariant-loop-i : goal.invariant-loop-i
invariant-loop-i l = (l.i ≤ l.self.n) × HeightsBelow (decode_rows l.self.rows.now) l.heights l.i
