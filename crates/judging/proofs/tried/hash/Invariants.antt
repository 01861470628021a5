-- `judging::tried::hash` meets its contract. Assumes nothing.
use Prim.Native.Nat.{◌<◌}
use Rattle.judging.proofs.tried.hash.Given as goal

abbrev pub invariant-loop-x : goal.invariant-loop-x
invariant-loop-x l = l.h < 281474976710656
