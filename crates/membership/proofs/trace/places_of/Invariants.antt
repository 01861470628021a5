-- `membership::trace::places_of` meets its contract. Assumes nothing.
use Rattle.automaton.proofs.Loops.{Filled}
use Rattle.membership.specs.Trace.{number_at}
use Rattle.membership.proofs.trace.places_of.Given as goal

abbrev pub invariant-loop-p : goal.invariant-loop-p
invariant-loop-p l = Filled (λ s. s.0) (number_at l.work l.j) 4 l.out l.p
