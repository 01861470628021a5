use mathlib.Core.Path.{refl}
use Rattle.runs.proofs.ByTag.{stepped, tracking_more, clashed, tracking}
use Rattle.runs.proofs.memories.tag_clear.Goals as goal

pub loop-i-init : goal.loop-i-init
loop-i-init c = search tracking

pub returns-in_default : goal.returns-in_default
returns-in_default c =
    clashed c.args.run.now _ _ _ _ c.requires.0 _ _ _
    (stepped _ _ _ _ _ c.requires.0 c.loop-i.cells c.loop-i.i c.loop-i.invariant c.loop-i-test.true _ _ _ _ c.left.result c.from-at.ensures refl c.row.ensures c.from_children-j.ensures c.left.ensures)
    c.in_default.is

pub loop-i-preserved : goal.loop-i-preserved
loop-i-preserved c =
    tracking_more c.args.run.now _ _ _ _ c.requires.0 _ _ _
    (stepped _ _ _ _ _ c.requires.0 c.loop-i.cells c.loop-i.i c.loop-i.invariant c.loop-i-test.true _ _ _ _ c.left.result c.from-at.ensures refl c.row.ensures c.from_children-j.ensures c.left.ensures)
    c.in-Some.place _ _ c.in-Some.is c.from-at.ensures refl
