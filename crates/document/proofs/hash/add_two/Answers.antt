-- One cell, then the other. Assumes nothing.
use Rattle.document.proofs.Hashing.{two_hashed}
use Rattle.document.proofs.hash.add_two.Goals as goal

pub returns : goal.returns
returns c = two_hashed c.args.h c.args.x c.low_cell.result c.low_cell-2.result c.add_cell.result c.add_cell-2.result c.low_cell.ensures c.add_cell.ensures c.low_cell-2.ensures c.add_cell-2.ensures
