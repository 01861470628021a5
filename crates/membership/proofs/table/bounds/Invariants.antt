-- `membership::table::bounds` meets its contract. Assumes nothing.
use Prim.Native.Nat.{min}
use Rattle.membership.proofs.Own.{Filled, bound_of}
use Rattle.membership.proofs.table.bounds.Given as goal

abbrev pub invariant-loop-p : goal.invariant-loop-p
invariant-loop-p l = Filled (min l.arity 4) (bound_of l.rows l.starts l.i.0 l.shift) 4 l.out l.p
