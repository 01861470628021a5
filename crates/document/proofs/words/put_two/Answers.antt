-- One cell, then the other. Assumes nothing.
use Rattle.document.proofs.WordCells.{put_pair}
use Rattle.document.proofs.words.put_two.Goals as goal

pub returns : goal.returns
returns c = put_pair c.args.rows.now c.args.at c.args.x c.low_cell.result c.low_cell-2.result c.requires c.low_cell.ensures c.low_cell-2.ensures
