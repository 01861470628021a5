-- The row of the words is finished, or added where it stands over the last row. Assumes nothing.
use mathlib.Core.Path.{refl}
use Rattle.jsonrows.proofs.Holding.{no_text, finish_answers}
use Rattle.jsonrows.proofs.LowerRows.{node_below, node_new}
use Rattle.jsonrows.proofs.rows.join.Goals as goal

pub returns-then-item-counts : goal.returns-then-item-counts
returns-then-item-counts c =
    finish_answers _ _ _ _ _ _ _ _ c.requires.holds _ (no_text _ _ refl c.requires.plain (node_below _ c.args.item.symbol c.requires.own c.requires.inside.1 c.requires.inside.2)) _ c.requires.behind c.node-w.ensures.kept _ _ _
    (c.add_new-placed.ensures _ c.node-w.ensures c.hash_of.ensures c.requires.holds.ready (node_new c.args.tables.now.rows c.args.rest.counts.used c.requires.holds.lower c.args.item.symbol _ _ _ c.if-item-counts.true))
    c.part_after.ensures

pub returns : goal.returns
returns c = c.finish.ensures _ c.node-w.ensures (no_text _ _ refl c.requires.plain (node_below _ c.args.item.symbol c.requires.own c.requires.inside.1 c.requires.inside.2))
