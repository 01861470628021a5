-- Ten cells in three words. Assumes nothing.
use native.Mathlib.Omega.{arith}
use Rattle.jsonrows.proofs.Nodes.{leaf_row_lem}
use Rattle.jsonrows.proofs.rows.leaf_of.Goals as goal

pub returns : goal.returns
returns c scalar ek ep = leaf_row_lem c.args.symbol scalar _ _ _ _ _ _ ep ek (omega (arith, c.ranges)) c.low_cell.ensures c.low_cell-2.ensures c.word.ensures c.word-2.ensures
