-- At the loop's head i of them are copied. Assumes nothing.
use Rattle.base.proofs.Copying.{Copied}
use Rattle.base.proofs.space.put.Given as goal

abbrev pub invariant-loop-i : goal.invariant-loop-i
invariant-loop-i g l = Copied l.initial.out l.at l.items l.i l.out
