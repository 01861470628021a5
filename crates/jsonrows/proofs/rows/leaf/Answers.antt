-- By the scalar's kind and payload. Assumes nothing.
use Rattle.jsonrows.proofs.rows.leaf.Goals as goal

pub returns : goal.returns
returns c = c.leaf_of.ensures c.args.scalar c.kind.ensures c.payload.ensures
