-- `judging::memory::agree` meets its contract. Assumes nothing.
use Rattle.membership.proofs.Places.{agree_at}
use Rattle.judging.proofs.Places.{Testing}
use Rattle.judging.proofs.memory.agree.Given as goal

abbrev pub invariant-loop-k : goal.invariant-loop-k
invariant-loop-k l = Testing (agree_at l.a l.b) l.all l.k
