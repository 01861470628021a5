-- `judging::table::annotate` meets its contract. Assumes nothing.
use lib.ListN.{length}
use Rattle.judging.proofs.Annotating.{Annotating}
use Rattle.judging.proofs.table.annotate.Given as goal

abbrev pub invariant-loop-i : goal.invariant-loop-i
invariant-loop-i l = Annotating l.set l.rows l.room l.tags (length l.initial.work) l.starts l.tried l.work l.slots l.n l.i
