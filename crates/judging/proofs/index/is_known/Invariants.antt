-- `judging::index::is_known` meets its contract. Assumes nothing.
use Rattle.model.specs.Annotation.{annotation}
use Rattle.membership.specs.Cells.{memory_of}
use Rattle.membership.proofs.Chain.{Walking}
use Rattle.judging.proofs.index.is_known.Given as goal

abbrev pub invariant-loop-i : goal.invariant-loop-i
invariant-loop-i l = Walking l.tags l.work l.n (annotation l.row.0 l.state.0 (memory_of l.tags l.memory)) l.i

abbrev pub decreases-loop-i : goal.decreases-loop-i
decreases-loop-i l = l.i
