-- At the loop's head the line that starts at a has come to i. Assumes nothing.
use Prim.Native.Nat.{◌≤◌}
use lib.ListN.{length}
use Rattle.names.proofs.Scan.{Scanned}
use Rattle.names.proofs.lines.line_end.Given as goal

abbrev pub invariant-loop-i : goal.invariant-loop-i
invariant-loop-i l = l.a ≤ length l.s → Scanned l.s l.a l.i
