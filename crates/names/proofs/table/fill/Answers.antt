use mathlib.Core.Path.{◌∙◌}
use Rattle.names.proofs.Scan.{name_from}
use Rattle.names.proofs.Cells.{filled_more, cells}
use Rattle.names.proofs.table.fill.Goals as goal

pub loop-i-init : goal.loop-i-init
loop-i-init c = search cells

pub loop-i-preserved : goal.loop-i-preserved
loop-i-preserved c =
    filled_more _ _ _ _ _ _ _ c.loop-i.invariant _ _ _ _ c.loop-i-test.true c.put_shown.auto.t
    (c.name-part.ensures ∙ name_from _ _ _ _ _ c.loop-i.invariant.in_site c.loop-i.invariant.in_built) c.put_shown.ensures
    (c.next_line-a.ensures.next _ c.loop-i.invariant.in_site) (c.next_line-b.ensures.next _ c.loop-i.invariant.in_built)
