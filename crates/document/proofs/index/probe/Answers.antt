use mathlib.Core.Path.{refl}
use borrow.Author.Rules.{rules}
use Rattle.document.proofs.Searching.{searched_free, searched_known, searched_more, searched_all}
use Rattle.document.proofs.index.probe.Goals as goal

pub returns-then-held-eq0 : goal.returns-then-held-eq0
returns-then-held-eq0 g c same? h = searched_free c.args.slots.now same? c.args.start c.loop-d.d c.args.start _ (c.loop-d.invariant same? h) (search rules) refl refl c.if-held-eq0.true

pub returns-then-same : goal.returns-then-same
returns-then-same g c same? h = searched_known c.args.slots.now same? c.args.start c.loop-d.d c.args.start _ (c.loop-d.invariant same? h) (search rules) refl refl c.same.result c.if-held-eq0.false (h _ _ c.same.ensures) c.if-same.true

pub loop-d-preserved : goal.loop-d-preserved
loop-d-preserved g c same? h = searched_more c.args.slots.now same? c.args.start c.loop-d.d c.args.start _ (c.loop-d.invariant same? h) (search rules) refl refl c.same.result c.if-held-eq0.false (h _ _ c.same.ensures) c.if-same.false

pub returns : goal.returns
returns g c same? h = searched_all c.args.slots.now same? c.args.start c.loop-d.d (c.loop-d.invariant same? h) (search rules)
