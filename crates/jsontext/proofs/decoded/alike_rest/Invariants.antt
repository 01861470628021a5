-- At the loop's head n bytes agree. Assumes nothing.
use Rattle.jsontext.specs.Compared.{Alike}
use Rattle.jsontext.proofs.decoded.alike_rest.Given as goal

abbrev pub invariant-loop-n : goal.invariant-loop-n
invariant-loop-n l = Alike l.s l.i l.t l.j l.n
