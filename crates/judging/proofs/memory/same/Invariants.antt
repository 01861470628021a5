-- `judging::memory::same` meets its contract. Assumes nothing.
use Rattle.membership.proofs.Places.{same_at}
use Rattle.judging.proofs.Places.{Testing}
use Rattle.judging.proofs.memory.same.Given as goal

abbrev pub invariant-loop-k : goal.invariant-loop-k
invariant-loop-k l = Testing (same_at l.a l.b) l.all l.k
