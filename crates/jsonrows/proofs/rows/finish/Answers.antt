-- Near at hand, or looked up. Assumes nothing.
use mathlib.Core.Path.{refl}
use Rattle.jsonrows.proofs.Holding.{finish_answers}
use Rattle.jsonrows.proofs.rows.finish.Goals as goal

pub returns-in-Some : goal.returns-in-Some
returns-in-Some c x words old = finish_answers _ _ _ _ _ _ _ _ c.requires.holds x old _ c.requires.behind words.kept _ _ _ (c.in-Some.ensures.found x _ _ words c.requires.holds.ready) refl
