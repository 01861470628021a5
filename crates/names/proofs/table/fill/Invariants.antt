-- At the loop's head i cells are written and the lines i start at a and b, so that symbol 0 of what is left is symbol i. Assumes nothing.
use Rattle.names.proofs.Cells.{Filled}
use Rattle.names.proofs.table.fill.Given as goal

abbrev pub invariant-loop-i : goal.invariant-loop-i
invariant-loop-i l = Filled l.site l.built_in l.initial.t l.i l.a l.b l.t
