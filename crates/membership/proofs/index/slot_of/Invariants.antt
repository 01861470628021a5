-- `membership::index::slot_of` meets its contract. Assumes nothing.
use Rattle.membership.proofs.Hashing.{Mixing}
use Rattle.membership.proofs.index.slot_of.Given as goal

abbrev pub invariant-loop-k : goal.invariant-loop-k
invariant-loop-k l = Mixing l.initial.h l.memory l.tags l.h l.k
