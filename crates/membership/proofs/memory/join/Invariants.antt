-- `membership::memory::join` meets its contract. Assumes nothing.
use Rattle.membership.proofs.Places.{Joining}
use Rattle.membership.proofs.memory.join.Given as goal

abbrev pub invariant-loop-k : goal.invariant-loop-k
invariant-loop-k l = Joining l.a l.b l.out l.k
