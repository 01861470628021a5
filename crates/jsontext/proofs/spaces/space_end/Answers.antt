-- At the loop's head all bytes so far are spaces. Assumes nothing.
use mathlib.Core.Path.{◌≡◌, sym, ◌∙◌}
use native.Mathlib.Omega.{arith}
use Rattle.jsontext.proofs.Blanks.{blank_stop, blank_all, blank_above}
use Rattle.jsontext.proofs.spaces.space_end.Goals as goal

pub returns-then-b-gt-BLANK : goal.returns-then-b-gt-BLANK
returns-then-b-gt-BLANK c = λ l. blank_stop _ _ _ (c.loop-i.invariant.1 l) (omega arith) (blank_above _ c.if-b-gt-BLANK.true)

pub returns-then-not-is_space : goal.returns-then-not-is_space
returns-then-not-is_space c =
    λ l.
    blank_stop _ _ _ (c.loop-i.invariant.1 l) (omega arith)
    (sym (c.is_space.ensures.compared l) ∙ c.if-not-is_space.true)

pub returns : goal.returns
returns c l = let end : c.max.result ≡ c.loop-i.i = omega (arith, c.loop-i.invariant.0, c.max.ensures) in end ∙ blank_all _ _ _ (c.loop-i.invariant.1 l) c.loop-i-test.false
