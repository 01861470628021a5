use borrow.Author.Rules.{rules}
use Rattle.document.proofs.Hashing.{hashed_next, hashed_all}
use Rattle.document.proofs.hash.row_hash.Goals as goal

pub loop-x-preserved : goal.loop-x-preserved
loop-x-preserved c = hashed_next c.args.cells c.loop-x.h c.loop-x.x-index c.add_cell-h.result c.loop-x.invariant (search rules) c.add_cell-h.ensures

pub returns : goal.returns
returns c = hashed_all c.args.cells c.loop-x.h c.loop-x.x-index c.loop-x.invariant (search rules)
