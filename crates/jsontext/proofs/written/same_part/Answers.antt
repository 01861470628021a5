-- At the loop's head k bytes agree. Assumes nothing.
use mathlib.Core.Path.{refl}
use native.Mathlib.Omega.{arith}
use Rattle.jsontext.proofs.Writing.{alike_join}
use Rattle.jsontext.proofs.written.same_part.Goals as goal

pub loop-k-preserved : goal.loop-k-preserved
loop-k-preserved c = (omega arith, alike_join _ _ _ _ _ _ refl c.loop-k.invariant.1 (c.same_word.ensures c.if-not-same_word.false))

pub returns : goal.returns
returns c e = alike_join _ _ _ _ _ _ (omega arith) c.loop-k.invariant.1 (c.same_few.ensures e)
