use mathlib.Core.Path.{refl, sym}
use mathlib.Core.Bool.{true, false}
use borrow.Author.Tests.{eq-eqb, ne_eqb}
use Rattle.emptiness.proofs.Shared.{looked_more, looked_shared, looking}
use Rattle.emptiness.proofs.tags.all_apart.Goals as goal

pub loop-q-init : goal.loop-q-init
loop-q-init c = search looking

pub loop-q-preserved : goal.loop-q-preserved
loop-q-preserved c = looked_more _ _ _ _ _ true c.loop-q.invariant c.loop-q-test.true c.tags_of-tags.ensures (sym (eq-eqb _ 0 c.if-seen-tags-ne0.false)) c.args.set.sound _ refl refl

pub returns-then-seen-tags-ne0 : goal.returns-then-seen-tags-ne0
returns-then-seen-tags-ne0 c = looked_shared _ _ _ _ _ false c.loop-q.invariant c.loop-q-test.true c.tags_of-tags.ensures (sym (ne_eqb _ 0 c.if-seen-tags-ne0.true)) c.args.set.sound refl
