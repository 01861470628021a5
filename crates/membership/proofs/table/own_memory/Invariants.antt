-- `membership::table::own_memory` meets its contract. Assumes nothing.
use Rattle.membership.proofs.Own.{Masking, own_at}
use Rattle.membership.proofs.table.own_memory.Given as goal

abbrev pub invariant-loop-k : goal.invariant-loop-k
invariant-loop-k l = Masking l.mask (own_at l.row.0) l.tags l.out l.rest l.k
