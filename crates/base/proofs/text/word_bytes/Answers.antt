use mathlib.Core.Path.{◌≡◌, ◌∙◌}
use lib.ListN.{length}
use native.Mathlib.Omega.{arith}
use borrow.Author.Tests.{ne_eqb}
use Rattle.base.specs.Text.{word_bytes}
use Rattle.base.proofs.Leading.{led_stop, led_all}
use Rattle.base.proofs.text.word_bytes.Goals as goal

pub returns-then-byte_behind-b : goal.returns-then-byte_behind-b
unfolding word_bytes
returns-then-byte_behind-b c =
    led_stop _ _ _ c.loop-n.invariant c.loop-n-test.true
    (ne_eqb _ _ (λ e. c.if-byte_behind-b.true (c.byte_behind.ensures ∙ e)))

pub returns : goal.returns
unfolding word_bytes
returns c =
    let e : length c.args.word.now ≡ c.loop-n.n = omega (arith, c.loop-n.invariant.inside) in
    e ∙ led_all _ _ _ c.loop-n.invariant c.loop-n-test.false
