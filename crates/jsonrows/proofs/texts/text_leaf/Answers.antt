-- A text that has a number has a row; another gets both. Assumes nothing.
use mathlib.Core.Path.{refl, sym, subst, ◌∙◌}
use Rattle.jsonrows.specs.Texts.{ProbedAt}
use Rattle.jsonrows.proofs.Texting.{probe_text, probed_some}
use Rattle.jsonrows.proofs.TextLeaves.{known_inside, known_read}
use Rattle.jsonrows.proofs.texts.text_leaf.Goals as goal

pub row_of-requires : goal.row_of-requires
row_of-requires c = let r = known_inside c.requires.holds (subst (ProbedAt _ _ _ _ _) c.in-Found.is c.requires.whole) in record { size = r.0; numbered = r.1 }

pub returns-in-Found : goal.returns-in-Found
returns-in-Found c = known_read c.requires.holds (subst (ProbedAt _ _ _ _ _) c.in-Found.is c.requires.whole) c.requires.behind _ c.row_of.ensures

pub returns-in-Crowded : goal.returns-in-Crowded
returns-in-Crowded c = absurd (probed_some (probe_text _ _ _ _ _ _ _ _ c.requires.holds _ _ _ c.requires.whole.string _ refl) (sym c.in-Crowded.is ∙ c.requires.whole.answer))
