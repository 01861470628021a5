-- The symbol, two places, and one more. Assumes nothing.
use Rattle.document.proofs.Hashing.{front_hashed}
use Rattle.document.proofs.hash.front_hash.Goals as goal

pub returns : goal.returns
returns c = front_hashed c.args.a c.low_cell.result c.low_cell-2.result c.add_small-h.result c.add_two.result c.add_cell.result c.low_cell.ensures c.add_small-h.ensures c.add_two.ensures c.low_cell-2.ensures c.add_cell.ensures
