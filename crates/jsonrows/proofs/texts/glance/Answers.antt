-- The first slot is empty, or holds a text that is written in the same bytes. Assumes nothing.
use mathlib.Core.Path.{refl}
use Rattle.jsonrows.proofs.Glancing.{glance_free, glance_known}
use Rattle.jsonrows.proofs.texts.glance.Goals as goal

pub returns-then-held-eq0 : goal.returns-then-held-eq0
returns-then-held-eq0 c told = glance_free c.args.source.now.text.now c.args.tables.now.starts c.args.tables.now.found c.args.at c.args.slot c.args.end _ _ c.requires.short c.from-i.ensures refl c.if-held-eq0.true

pub returns-then-same_bytes : goal.returns-then-same_bytes
returns-then-same_bytes c told = glance_known c.args.source.now.text.now c.args.tables.now.starts c.args.tables.now.found c.args.at c.args.slot c.args.end _ _ c.requires.short c.from-i.ensures refl c.if-held-eq0.false _ c.start_of.ensures (c.same_bytes.ensures c.if-same_bytes.true)
