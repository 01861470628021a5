-- `judging::search::search` meets its contract: the measure is the number of places left. Assumes nothing.
use Prim.Native.Nat.{◌-◌}
use Rattle.judging.proofs.Searching.{Choosing}
use Rattle.judging.proofs.search.+search.Given as goal

abbrev pub decreases-search : goal.decreases-search
decreases-search l = l.left

abbrev pub invariant-loop-j : goal.invariant-loop-j
invariant-loop-j l = Choosing l.initial.work l.initial.slots l.own l.plan l.asked l.left l.n l.memory l.initial.children l.chains.heads l.chains.links l.work l.slots l.children l.tried l.m l.j

abbrev pub decreases-loop-j : goal.decreases-loop-j
decreases-loop-j l = l.end - l.j
