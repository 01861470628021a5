-- A short whole part with a fraction behind it or nothing, or any number. Assumes nothing.
use mathlib.Core.Path.{sym}
use Rattle.jsontext.proofs.ShortRuns.{whole_count}
use Rattle.jsontext.proofs.number.number.Goals as goal

pub returns : goal.returns
returns c l = sym (whole_count _ _ _ c.in-Some.ensures.placed (c.in-Some.ensures.begins l) c.if-b-eq46.false c.if-b.false)
