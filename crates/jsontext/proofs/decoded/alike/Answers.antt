-- At the loop's head n bytes agree. Assumes nothing.
use native.Mathlib.Omega.{arith}
use Rattle.jsontext.proofs.Agreeing.{alike_join}
use Rattle.jsontext.proofs.decoded.alike.Goals as goal

pub returns-then-m-lt-WORD : goal.returns-then-m-lt-WORD
returns-then-m-lt-WORD c = alike_join _ _ _ _ _ _ c.loop-n.invariant.1 c.alike_word-m.ensures

pub loop-n-preserved : goal.loop-n-preserved
loop-n-preserved c = (omega arith, alike_join _ _ _ _ _ _ c.loop-n.invariant.1 c.alike_word-m.ensures)

pub returns : goal.returns
returns c = alike_join _ _ _ _ _ _ c.loop-n.invariant.1 c.alike_rest.ensures
