-- `membership::memory::kept` meets its contract. Assumes nothing.
use Rattle.membership.proofs.Own.{Masking, kept_at}
use Rattle.membership.proofs.memory.kept.Given as goal

abbrev pub invariant-loop-k : goal.invariant-loop-k
invariant-loop-k l = Masking l.mask (kept_at l.memory) l.tags l.out l.rest l.k
