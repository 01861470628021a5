-- `membership::search::search` meets its contract: the measure is the number of places left. Assumes nothing.
use Rattle.membership.proofs.Searching.{Searching}
use Rattle.membership.proofs.search.+search.Given as goal

abbrev pub decreases-search : goal.decreases-search
decreases-search l = l.left

abbrev pub invariant-loop-j : goal.invariant-loop-j
invariant-loop-j l = Searching l.initial.work l.own l.want l.left l.n l.memory l.children l.work l.m l.j
