-- At the loop's head n bytes agree. Assumes nothing.
use Prim.Native.Nat.{◌-◌, ◌≤◌}
use Rattle.jsontext.specs.Compared.{Alike}
use Rattle.jsontext.proofs.decoded.alike.Given as goal

abbrev pub invariant-loop-n : goal.invariant-loop-n
invariant-loop-n l = (l.n ≤ l.room) × Alike l.s l.i l.t l.j l.n

abbrev pub decreases-loop-n : goal.decreases-loop-n
decreases-loop-n l = l.room - l.n
