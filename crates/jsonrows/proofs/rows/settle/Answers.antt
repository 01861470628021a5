-- By what the builder answered. Assumes nothing.
use Rattle.jsonrows.proofs.Holding.{finish_answers}
use Rattle.jsonrows.proofs.rows.settle.Goals as goal

pub returns : goal.returns
returns c x words old = finish_answers _ _ _ _ _ _ _ _ c.requires.holds x old _ c.requires.behind words.kept _ _ _ (c.place_row-placed.ensures x words c.requires.holds.ready) c.part_after.ensures
