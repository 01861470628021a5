-- The table holds the names shown, so its names differ where those do. Assumes nothing.
use Rattle.names.proofs.Checked.{answers}
use Rattle.names.proofs.are_distinct.Goals as goal

pub returns : goal.returns
returns c = search answers
