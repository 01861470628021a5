-- At the loop's head the digits left come to the whole number. Assumes nothing.
use Prim.Native.Nat.{◌+◌, ◌≤◌, max}
use lib.ListN.{length}
use Rattle.term.proofs.Numbers.{Digits}
use Rattle.term.proofs.scan.digits.Given as goal

abbrev pub invariant-loop-i : goal.invariant-loop-i
invariant-loop-i l = Digits (l.most + 1) l.source.text.now l.first l.at l.v l.i × (l.i ≤ max l.at (length l.source.text.now))
