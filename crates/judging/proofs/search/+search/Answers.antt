use native.Mathlib.Omega.{arith}
use Rattle.judging.specs.Chains.{class_in}
use Rattle.judging.specs.Search.{tags_in}
use Rattle.judging.proofs.Searching.{none_left, tried_already, start, next_ready, in_place, in_work, choice_short, more_short, class_known, skip, again, full, all, choosing, choosing_next, class_start, first_needs, next_needs, next_windows}
use Rattle.judging.proofs.search.+search.Goals as goal

pub shape_of-work-then-left-eq0 : goal.shape_of-work-then-left-eq0
shape_of-work-then-left-eq0 t c = c.leave.auto.work

pub returns-then-left-eq0 : goal.returns-then-left-eq0
returns-then-left-eq0 t c = none_left c.args.work.now c.args.slots.now c.args.own.now c.args.plan.now c.args.asked.now c.args.left c.args.n c.args.memory.now c.args.children.now c.requires.0 c.args.tried.now c.requires.2 c.if-left-eq0.true c.leave.new.work c.leave.new.slots c.leave.result c.leave.ensures

pub slot_for-slot-requires : goal.slot_for-slot-requires
slot_for-slot-requires t c = omega (arith, c.requires.0.few_children, c.requires.1, c.if-left-eq0.false)

pub is_tried-requires : goal.is_tried-requires
is_tried-requires t c = record { in_bounds = c.slot_for-slot.ensures; row_bound = (c.requires.2.few_rows, c.requires.2.few_rules, omega (arith, c.requires.0.few_children, c.requires.1), c.requires.0.few_tags) }

pub returns-then-is_tried : goal.returns-then-is_tried
returns-then-is_tried t c = tried_already c.args.work.now c.args.slots.now c.args.own.now c.args.plan.now c.args.asked.now c.args.left c.args.n c.args.memory.now c.args.children.now c.requires.0 c.args.tried.now c.requires.2 (c.is_tried.ensures c.if-is_tried.true)

pub overflow_sub-rest : goal.overflow_sub-rest
overflow_sub-rest t c = omega (arith, c.if-left-eq0.false)

pub first_in-j-requires : goal.first_in-j-requires
first_in-j-requires t c =
    let (four, order, few, fits, opened) = first_needs c.args.work.now c.args.slots.now c.args.own.now c.args.plan.now c.args.asked.now c.args.left c.args.n c.args.memory.now c.args.children.now c.requires.0 c.requires.1 c.if-left-eq0.false c.args.chains.now.heads c.args.chains.now.links c.requires.5 in
    record { bounds = (four, c.class_of-c.ensures.1, order, few, fits); opened = opened }

pub loop-j-init : goal.loop-j-init
loop-j-init t c = choosing c.args.work.now c.args.slots.now c.args.own.now c.args.plan.now c.args.asked.now c.args.left c.args.n c.args.memory.now c.args.children.now c.args.chains.now.heads c.args.chains.now.links c.args.work.now c.args.slots.now c.args.children.now c.args.tried.now c.args.n _ (start c.args.work.now c.args.slots.now c.args.own.now c.args.plan.now c.args.asked.now c.args.left c.args.n c.args.memory.now c.args.children.now c.requires.0 c.requires.1 c.if-left-eq0.false c.args.tried.now c.requires.2) c.requires.5 (omega arith) (class_in c.args.work.now) (class_start c.args.work.now c.args.slots.now c.args.own.now c.args.plan.now c.args.asked.now c.args.left c.args.n c.args.memory.now c.args.children.now c.requires.0 c.requires.1 c.if-left-eq0.false c.args.chains.now.heads c.args.chains.now.links c.requires.5) c.class_of-c.result c.first_in-j.result c.class_of-c.ensures.0 c.first_in-j.ensures

pub next_in-j-requires : goal.next_in-j-requires
next_in-j-requires t c =
    let (few, fits, chained, is) = next_needs c.args.work.now c.args.slots.now c.args.own.now c.args.plan.now c.args.asked.now c.args.left c.args.n c.args.memory.now c.args.children.now c.args.chains.now.heads c.args.chains.now.links c.loop-j.work c.loop-j.slots c.loop-j.children c.loop-j.tried c.loop-j.m c.loop-j.j c.loop-j.invariant c.loop-j-test.true in
    record { bounds = (c.loop-j.invariant.from, c.loop-j-test.true, few, fits); chained = (chained, is c.class_of-c.result c.class_of-c.ensures.0) }

pub choosable-requires : goal.choosable-requires
choosable-requires t c =
    let (few, fits) = in_work c.args.work.now c.args.slots.now c.args.own.now c.args.plan.now c.args.asked.now c.args.left c.args.n c.args.memory.now c.args.children.now c.loop-j.work c.loop-j.slots c.loop-j.children c.loop-j.tried c.loop-j.m c.loop-j.j c.loop-j.invariant.searching c.loop-j-test.true in
    (c.loop-j.invariant.searching.ready.few_tags, omega (arith, fits), c.requires.4, choice_short c.args.work.now c.args.slots.now c.args.own.now c.args.plan.now c.args.asked.now c.args.left c.args.n c.args.memory.now c.args.children.now c.loop-j.work c.loop-j.slots c.loop-j.children c.loop-j.tried c.loop-j.m c.loop-j.j c.loop-j.invariant.searching c.loop-j-test.true)

pub joined_with-more-requires : goal.joined_with-more-requires
joined_with-more-requires t c =
    let (few, fits) = in_work c.args.work.now c.args.slots.now c.args.own.now c.args.plan.now c.args.asked.now c.args.left c.args.n c.args.memory.now c.args.children.now c.loop-j.work c.loop-j.slots c.loop-j.children c.loop-j.tried c.loop-j.m c.loop-j.j c.loop-j.invariant.searching c.loop-j-test.true in
    omega (arith, fits)

pub narrow-requires : goal.narrow-requires
narrow-requires t c =
    let (few, fits) = in_work c.args.work.now c.args.slots.now c.args.own.now c.args.plan.now c.args.asked.now c.args.left c.args.n c.args.memory.now c.args.children.now c.loop-j.work c.loop-j.slots c.loop-j.children c.loop-j.tried c.loop-j.m c.loop-j.j c.loop-j.invariant.searching c.loop-j-test.true in
    omega (arith, few)

pub offset_bounds-children-p : goal.offset_bounds-children-p
offset_bounds-children-p t c =
    let (four, e, less) = in_place c.args.work.now c.args.slots.now c.args.own.now c.args.plan.now c.args.asked.now c.args.left c.args.n c.args.memory.now c.args.children.now c.loop-j.work c.loop-j.slots c.loop-j.children c.loop-j.tried c.loop-j.m c.loop-j.j c.loop-j.invariant.searching in
    omega (arith, four)

pub bounds-children-p : goal.bounds-children-p
bounds-children-p t c =
    let (four, e, less) = in_place c.args.work.now c.args.slots.now c.args.own.now c.args.plan.now c.args.asked.now c.args.left c.args.n c.args.memory.now c.args.children.now c.loop-j.work c.loop-j.slots c.loop-j.children c.loop-j.tried c.loop-j.m c.loop-j.j c.loop-j.invariant.searching in
    omega (arith, four)

pub search-requires : goal.search-requires
search-requires t c =
    let (four, e, less) = in_place c.args.work.now c.args.slots.now c.args.own.now c.args.plan.now c.args.asked.now c.args.left c.args.n c.args.memory.now c.args.children.now c.loop-j.work c.loop-j.slots c.loop-j.children c.loop-j.tried c.loop-j.m c.loop-j.j c.loop-j.invariant.searching in
    let is = c.decreases in let p = c.requires in
    (omega (arith, c.loop-j.invariant.searching.some, is), (next_ready c.args.work.now c.args.slots.now c.args.own.now c.args.plan.now c.args.asked.now c.args.left c.args.n c.args.memory.now c.args.children.now c.loop-j.work c.loop-j.slots c.loop-j.children c.loop-j.tried c.loop-j.m c.loop-j.j c.loop-j.invariant.searching, less, c.loop-j.invariant.searching.tried, p.3, more_short c.args.work.now c.args.slots.now c.args.own.now c.args.plan.now c.args.asked.now c.args.left c.args.n c.args.memory.now c.args.children.now c.loop-j.work c.loop-j.slots c.loop-j.children c.loop-j.tried c.loop-j.m c.loop-j.j c.loop-j.invariant.searching c.loop-j-test.true c.joined_with-more.result p.4 c.joined_with-more.ensures, next_windows c.args.work.now c.args.slots.now c.args.own.now c.args.plan.now c.args.asked.now c.args.left c.args.n c.args.memory.now c.args.children.now c.args.chains.now.heads c.args.chains.now.links c.loop-j.work c.loop-j.slots c.loop-j.children c.loop-j.tried c.loop-j.m c.loop-j.j c.loop-j.invariant c.loop-j-test.true))

pub returns-in_err-m : goal.returns-in_err-m
returns-in_err-m t c = rw c.from_residual.ensures (full c.args.work.now c.args.slots.now c.args.own.now c.args.plan.now c.args.asked.now c.args.left c.args.n c.args.memory.now c.args.children.now c.loop-j.work c.loop-j.slots c.loop-j.children c.loop-j.tried c.loop-j.m c.loop-j.j c.loop-j.invariant.searching c.loop-j-test.true c.choosable.result c.choosable.ensures c.narrow.result c.joined_with-more.result c.if-choosable.true (c.joined_with-more.ensures (tags_in c.args.plan.now) c.loop-j.invariant.searching.ready.few_tags) c.narrow.ensures c.search.new.work c.search.new.slots c.search.new.children c.search.new.tried c.in_err-m.ensures.0 c.in_err-m.ensures.1)

pub loop-j-preserved-then-choosable : goal.loop-j-preserved-then-choosable
loop-j-preserved-then-choosable t c = choosing_next c.args.work.now c.args.slots.now c.args.own.now c.args.plan.now c.args.asked.now c.args.left c.args.n c.args.memory.now c.args.children.now c.args.chains.now.heads c.args.chains.now.links c.search.new.work c.search.new.slots c.search.new.children c.search.new.tried c.in_ok-m.m c.loop-j.j (again c.args.work.now c.args.slots.now c.args.own.now c.args.plan.now c.args.asked.now c.args.left c.args.n c.args.memory.now c.args.children.now c.loop-j.work c.loop-j.slots c.loop-j.children c.loop-j.tried c.loop-j.m c.loop-j.j c.loop-j.invariant.searching c.loop-j-test.true c.choosable.result c.choosable.ensures c.narrow.result c.joined_with-more.result c.if-choosable.true (c.joined_with-more.ensures (tags_in c.args.plan.now) c.loop-j.invariant.searching.ready.few_tags) c.narrow.ensures c.search.new.work c.search.new.slots c.search.new.children c.search.new.tried c.in_ok-m.m c.in_ok-m.ensures.0 c.in_ok-m.ensures.1 c.in_ok-m.ensures.2 c.search.auto.work) c.loop-j.invariant.windows c.loop-j.invariant.from (class_in c.loop-j.work) (class_known c.args.work.now c.args.slots.now c.args.own.now c.args.plan.now c.args.asked.now c.args.left c.args.n c.args.memory.now c.args.children.now c.loop-j.work c.loop-j.slots c.loop-j.children c.loop-j.tried c.loop-j.m c.loop-j.j c.loop-j.invariant.searching) c.class_of-c.result c.next_in-j.result c.class_of-c.ensures.0 c.next_in-j.ensures

pub loop-j-preserved : goal.loop-j-preserved
loop-j-preserved t c = choosing_next c.args.work.now c.args.slots.now c.args.own.now c.args.plan.now c.args.asked.now c.args.left c.args.n c.args.memory.now c.args.children.now c.args.chains.now.heads c.args.chains.now.links c.loop-j.work c.loop-j.slots c.loop-j.children c.loop-j.tried c.loop-j.m c.loop-j.j (skip c.args.work.now c.args.slots.now c.args.own.now c.args.plan.now c.args.asked.now c.args.left c.args.n c.args.memory.now c.args.children.now c.loop-j.work c.loop-j.slots c.loop-j.children c.loop-j.tried c.loop-j.m c.loop-j.j c.loop-j.invariant.searching c.loop-j-test.true c.choosable.result c.choosable.ensures c.if-choosable.false) c.loop-j.invariant.windows c.loop-j.invariant.from (class_in c.loop-j.work) (class_known c.args.work.now c.args.slots.now c.args.own.now c.args.plan.now c.args.asked.now c.args.left c.args.n c.args.memory.now c.args.children.now c.loop-j.work c.loop-j.slots c.loop-j.children c.loop-j.tried c.loop-j.m c.loop-j.j c.loop-j.invariant.searching) c.class_of-c.result c.next_in-j.result c.class_of-c.ensures.0 c.next_in-j.ensures

pub keep-requires : goal.keep-requires
keep-requires t c = (c.slot_for-slot.ensures, c.requires.2.few_rows, c.requires.2.few_rules, omega (arith, c.requires.0.few_children, c.requires.1))

pub shape_of-work : goal.shape_of-work
shape_of-work t c = c.loop-j.invariant.searching.turning.space

pub returns : goal.returns
returns t c = all c.args.work.now c.args.slots.now c.args.own.now c.args.plan.now c.args.asked.now c.args.left c.args.n c.args.memory.now c.args.children.now c.loop-j.work c.loop-j.slots c.loop-j.children c.loop-j.tried c.loop-j.m c.loop-j.j c.loop-j.invariant.searching c.loop-j-test.false c.keep.new.tried c.keep.ensures
