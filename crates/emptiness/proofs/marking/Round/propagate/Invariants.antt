-- `emptiness::marking::Round::propagate` meets its contract: the places from the loop's number on were met, and the numbers fall. Assumes nothing.
use Rattle.automaton.specs.Stored.{decode}
use Rattle.emptiness.proofs.Links.{Follows}
use Rattle.emptiness.proofs.marking.Round.propagate.Given as goal

abbrev pub invariant-loop-at : goal.invariant-loop-at
invariant-loop-at l = Follows (decode l.set.bytes.now) l.marks l.lists.last l.initial.at l.at l.initial.self.marks l.initial.self.added l.initial.self.count l.self.marks l.self.added l.self.count

abbrev pub decreases-loop-at : goal.decreases-loop-at
decreases-loop-at l = l.at
