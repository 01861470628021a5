-- `runs::memories::tags_clear` meets its contract: no tag passed clashes. Assumes nothing.
use Rattle.automaton.specs.Stored.{decode}
use Rattle.runs.specs.Steps.{decode_steps}
use Rattle.runs.proofs.ByTag.{Clearing}
use Rattle.runs.proofs.memories.tags_clear.Given as goal

abbrev pub invariant-loop-k : goal.invariant-loop-k
invariant-loop-k l = Clearing (decode l.set) (decode_steps l.run) l.n l.tags l.notes l.cells l.k
