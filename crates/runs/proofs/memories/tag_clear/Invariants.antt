-- `runs::memories::tag_clear` meets its contract: the cells of the steps passed are the places in their memories. Assumes nothing.
use Rattle.runs.specs.Steps.{decode_steps}
use Rattle.runs.proofs.ByTag.{Tracking}
use Rattle.runs.proofs.memories.tag_clear.Given as goal

abbrev pub invariant-loop-i : goal.invariant-loop-i
invariant-loop-i l = Tracking (decode_steps l.run) l.n l.tag.k l.notes l.initial.cells l.cells l.i
