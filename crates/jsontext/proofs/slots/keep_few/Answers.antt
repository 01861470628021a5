-- The last eight move up. Assumes nothing.
use mathlib.Core.Path.{sym, ap, ◌∙◌}
use native.Mathlib.Omega.{arith}
use Rattle.jsontext.specs.Decoded.{join_bytes}
use lib.Seq.{take_all}
use Rattle.jsontext.proofs.Keeping.{last_shifted}
use Rattle.jsontext.proofs.slots.keep_few.Goals as goal

pub returns : goal.returns
returns c =
    λ bs xs v u e f.
    c.keep.ensures bs xs v u e (f ∙ ap join_bytes (sym (take_all 8 xs (omega (arith, c.requires)))))
    (last_shifted bs xs _ _ _ v.bytes u e (omega (arith, c.requires)) f v.last)
