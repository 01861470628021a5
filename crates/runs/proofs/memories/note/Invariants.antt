-- `runs::memories::note` meets its contract: the steps passed are noted. Assumes nothing.
use lib.ListN.{length}
use Rattle.automaton.specs.Stored.{decode}
use Rattle.runs.specs.Steps.{decode_steps}
use Rattle.runs.proofs.ByTag.{Noting}
use Rattle.runs.proofs.memories.note.Given as goal

abbrev pub invariant-loop-i : goal.invariant-loop-i
invariant-loop-i l = Noting (decode l.set) (decode_steps l.run) l.n (length l.initial.notes) l.notes l.i
