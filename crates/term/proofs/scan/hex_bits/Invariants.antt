-- At the loop's head n digits were read, which stand inside, and the rest comes to the whole number. Assumes nothing.
use Prim.Native.Nat.{◌+◌, ◌≤◌, max}
use lib.ListN.{length}
use Rattle.term.proofs.Numbers.{Hex}
use Rattle.term.proofs.scan.hex_bits.Given as goal

abbrev pub invariant-loop-n : goal.invariant-loop-n
invariant-loop-n l = Hex l.source.text.now l.at l.v l.n (l.at + l.n) × (l.at + l.n ≤ max l.at (length l.source.text.now))
