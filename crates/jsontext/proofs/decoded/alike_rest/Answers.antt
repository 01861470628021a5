-- At the loop's head n bytes agree. Assumes nothing.
use mathlib.Core.Path.{refl, sym, ◌∙◌}
use Rattle.jsontext.proofs.Agreeing.{alike_more}
use Rattle.jsontext.proofs.decoded.alike_rest.Goals as goal

pub loop-n-preserved : goal.loop-n-preserved
loop-n-preserved c = alike_more _ _ _ _ _ _ _ c.loop-n.invariant refl (sym c.is_plain.ensures ∙ c.if-not-is_plain.false) refl c.if-t-j.false
