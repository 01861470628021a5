use mathlib.Core.List.{map}
use mathlib.Core.Path.{◌∙◌}
use native.Mathlib.Omega.{arith}
use Rattle.document.proofs.Marking.{item_number, item_inside, items_passed, marked_stop, marked_all, marking_more, marking_same}
use Rattle.document.proofs.marks.mark.Goals as goal
use Rattle.document.proofs.marks.mark.Goals.{then-at-number, else-at-number}

pub returns-then-at : goal.returns-then-at
returns-then-at g c =
    let number = g.N.Numbered.number in
    let ps = c.args.places.now in
    marked_stop (map number ps) (number c.args.j) c.args.marks.now c.loop-x.marks c.loop-x.x-index c.loop-x.invariant _ (item_inside number ps _ c.loop-x-test.true)
    (item_number number ps _ _ _ c.loop-x-test.true c.x-item.is c.number-at.ensures) c.if-at.true

pub loop-x-preserved : goal.loop-x-preserved
loop-x-preserved g c =
    let number = g.N.Numbered.number in
    let ps = c.args.places.now in
    let more = marking_more (map number ps) (number c.args.j) c.args.marks.now c.loop-x.marks c.loop-x.x-index c.loop-x.invariant _ (item_inside number ps _ c.loop-x-test.true)
    (item_number number ps _ _ _ c.loop-x-test.true c.x-item.is c.number-at.ensures) c.if-at.false in
    let same = marking_same (map number ps) (number c.args.j) c.args.marks.now c.loop-x.marks c.loop-x.x-index c.loop-x.invariant _ (item_inside number ps _ c.loop-x-test.true)
    (item_number number ps _ _ _ c.loop-x-test.true c.x-item.is c.number-at.ensures) c.if-at.false in
    elim c.if-at-number.branch [
      | then-at-number w ↦ more c.if-at-number.marks _ (omega arith) w.from.ensures (w.marks-is ∙ w.set_mark.ensures)
      | else-at-number w ↦ rw w.marks-is (same (omega arith))
    ]

pub returns : goal.returns
returns g c = marked_all (map g.N.Numbered.number c.args.places.now) (g.N.Numbered.number c.args.j) c.args.marks.now c.loop-x.marks c.loop-x.x-index c.loop-x.invariant (items_passed g.N.Numbered.number c.args.places.now _ c.loop-x-test.false)
