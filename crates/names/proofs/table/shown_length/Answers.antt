-- The length of the part. Assumes nothing.
use mathlib.Core.Path.{ap}
use lib.ListN.{length}
use Rattle.names.proofs.table.shown_length.Goals as goal

pub returns : goal.returns
returns c = ap length c.shown.ensures
