-- `boolean::keys::key` meets its contract: the loop has pushed the places before its index. Assumes nothing.
use lib.ListN.{get_or}
use Rattle.boolean.proofs.Packing.{Pushing}
use Rattle.boolean.proofs.keys.key.Given as goal

abbrev pub invariant-loop-p : goal.invariant-loop-p
invariant-loop-p l = Pushing l.symbol (λ k. get_or l.p-items k 0) l.x l.p-index
