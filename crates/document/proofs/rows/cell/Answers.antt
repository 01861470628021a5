-- `document::rows::cell` meets its contract: past the end a cell counts as 0. Assumes nothing.
use Rattle.std.proofs.Common.{rules}
use Rattle.document.specs.Rows.{cell_in}
use Rattle.document.proofs.rows.cell.Goals as goal

pub returns : goal.returns
unfolding cell_in
returns c = search rules
