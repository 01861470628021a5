-- The key list, then the text: the first place that refuses decides. Assumes nothing.
use mathlib.Core.Path.{sym, ◌∙◌}
use Rattle.jsonrows.proofs.Keying.{keyed}
use Rattle.jsonrows.proofs.WholeTexts.{list_refused, text_answers}
use Rattle.jsonrows.proofs.read.Goals as goal

pub invariant_of-source : goal.invariant_of-source
invariant_of-source c = record { lent = c.class_table-classes.ensures; table = keyed (c.fill_keys.ensures.filled c.if-fill_keys.true) }

pub returns-then-fill_keys : goal.returns-then-fill_keys
returns-then-fill_keys c = let r = text_answers _ _ _ (sym c.if-fill_keys.true ∙ c.fill_keys.ensures.value) _ _ c.read_text.ensures in record { answer = r.0; space = r.1 }

pub returns : goal.returns
returns c = let r = list_refused _ _ _ (sym c.if-fill_keys.false ∙ c.fill_keys.ensures.value) in record { answer = r.0; space = r.1 }
