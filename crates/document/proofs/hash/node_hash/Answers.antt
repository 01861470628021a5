-- Five cells one by one; the others are zeros. Assumes nothing.
use native.Mathlib.Omega.{arith}
use Rattle.document.proofs.Hashing.{node_hashed}
use Rattle.document.proofs.hash.node_hash.Goals as goal

pub returns : goal.returns
returns c = node_hashed c.args.symbol c.args.x c.args.y c.args.z 65535 _ _ _ _ _ c.add_small.ensures c.add_cell.ensures c.add_cell-2.ensures c.add_cell-front.ensures c.add_cell-3.ensures _ (omega (arith, c.add_cell-3.type_inv)) c.times.ensures
