-- `document::marks::mark` meets its contract: the invariant says what the places not yet passed still add. Assumes nothing.
use mathlib.Core.List.{map}
use Rattle.document.proofs.Marking.{Marking}
use Rattle.document.proofs.marks.mark.Given as goal

abbrev pub invariant-loop-x : goal.invariant-loop-x
invariant-loop-x g l = Marking (map g.N.Numbered.number l.places) (g.N.Numbered.number l.j) l.initial.marks l.marks l.x-index
