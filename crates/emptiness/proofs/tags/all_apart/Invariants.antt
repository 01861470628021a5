-- `emptiness::tags::all_apart` meets its contract: the states before the loop's index share no tag, and the mask has theirs. Assumes nothing.
use Rattle.automaton.specs.Stored.{decode}
use Rattle.emptiness.proofs.Shared.{Looked}
use Rattle.emptiness.proofs.tags.all_apart.Given as goal

abbrev pub invariant-loop-q : goal.invariant-loop-q
invariant-loop-q l = Looked (decode l.set.bytes.now) l.set.states l.seen l.q
