-- `forms::keeps_masks` meets its contract: the form has a place for masks, the set's own form has none, or the masks were looked at. Assumes nothing.
use mathlib.Core.Path.{◌∙◌}
use Rattle.forms.proofs.Moving.{kept_unseen, kept_seen}
use Rattle.forms.proofs.keeps_masks.Goals as goal

pub returns-then-isolating : goal.returns-then-isolating
returns-then-isolating c = c.if-isolating.true ∙ kept_unseen c.args.form c.args.set.now _ c.form_of.ensures _ _ c.isolating.ensures c.isolating-2.ensures c.if-isolating.true

pub returns-else-isolating : goal.returns-else-isolating
returns-else-isolating c = kept_seen c.args.form c.args.set.now _ c.form_of.ensures _ _ c.isolating.ensures c.isolating-2.ensures _ c.forgets_nothing.ensures c.if-isolating.false
