-- `runs::memories::one_row` meets its contract: the tests of all tags are the test of all steps. Assumes nothing.
use mathlib.Core.Path.{sym, ◌∙◌}
use Rattle.runs.proofs.ByTag.{by_tags, no_tags}
use Rattle.runs.proofs.memories.one_row.Goals as goal

pub returns-then-tags-eq0 : goal.returns-then-tags-eq0
returns-then-tags-eq0 c = no_tags _ _ _ c.requires (sym c.header-h.ensures.tags ∙ c.if-tags-eq0.true)

pub returns : goal.returns
returns c = by_tags _ _ _ c.requires _ c.tags_clear.ensures
