use mathlib.Core.Path.{sym, subst}
use native.Mathlib.Omega.{arith}
use Rattle.membership.specs.Cells.{memory_of, annotations_in}
use Rattle.membership.specs.Entries.{entries_in, add_entries, Grown}
use Rattle.membership.proofs.Searching.{found_none, start, next_ready, in_window, skip, again, full, all}
use Rattle.membership.proofs.search.+search.Goals as goal
use Rattle.membership.proofs.search.+search.Goals.{then-choosable+in_ok-m, else-choosable}

pub shape_of-work-then-left-eq0 : goal.shape_of-work-then-left-eq0
shape_of-work-then-left-eq0 t c = c.leave.auto.work

pub returns-then-left-eq0 : goal.returns-then-left-eq0
returns-then-left-eq0 t c =
    subst (λ z. Grown c.args.n c.args.want.now.room c.args.want.now.tags (add_entries (entries_in c.args.want.now.tags c.args.work.now c.args.n) z) c.leave.new.work c.leave.result)
    (sym (found_none (annotations_in c.args.want.now.tags c.args.work.now c.args.want.now.base) c.args.want.now (memory_of c.args.want.now.tags c.args.own.now) c.args.left (memory_of c.args.want.now.tags c.args.memory.now) c.args.children c.if-left-eq0.true))
    c.leave.ensures

pub loop-j-init : goal.loop-j-init
loop-j-init t c = start c.args.work.now c.args.own.now c.args.want.now c.args.left c.args.n c.args.memory.now c.args.children c.requires.0 c.requires.3 c.if-left-eq0.false

pub choosable-requires : goal.choosable-requires
choosable-requires t c =
    let i = in_window c.args.work.now c.args.own.now c.args.want.now c.args.left c.args.n c.args.memory.now c.args.children c.loop-j.work c.loop-j.m c.loop-j.j c.loop-j.invariant c.loop-j-test.true in
    let r = next_ready c.args.work.now c.args.own.now c.args.want.now c.args.left c.args.n c.args.memory.now c.args.children c.loop-j.work c.loop-j.m c.loop-j.j c.loop-j.invariant in
    (r.few_tags, c.requires.2, omega (arith, i, r.known, r.count, r.space))

pub joined_with-joined-requires : goal.joined_with-joined-requires
joined_with-joined-requires t c =
    let i = in_window c.args.work.now c.args.own.now c.args.want.now c.args.left c.args.n c.args.memory.now c.args.children c.loop-j.work c.loop-j.m c.loop-j.j c.loop-j.invariant c.loop-j-test.true in
    let r = next_ready c.args.work.now c.args.own.now c.args.want.now c.args.left c.args.n c.args.memory.now c.args.children c.loop-j.work c.loop-j.m c.loop-j.j c.loop-j.invariant in
    (c.requires.2, omega (arith, i, r.known, r.count, r.space))

pub with_child-with-requires : goal.with_child-with-requires
with_child-with-requires t c =
    let i = in_window c.args.work.now c.args.own.now c.args.want.now c.args.left c.args.n c.args.memory.now c.args.children c.loop-j.work c.loop-j.m c.loop-j.j c.loop-j.invariant c.loop-j-test.true in
    let r = next_ready c.args.work.now c.args.own.now c.args.want.now c.args.left c.args.n c.args.memory.now c.args.children c.loop-j.work c.loop-j.m c.loop-j.j c.loop-j.invariant in
    (omega (arith, c.loop-j.invariant.some, c.loop-j.invariant.within, r.few_children), omega (arith, i, r.known, r.count, r.few))

pub overflow_sub-left : goal.overflow_sub-left
overflow_sub-left t c = omega (arith, c.loop-j.invariant.some)

pub search-requires : goal.search-requires
search-requires t c = (omega (arith, c.loop-j.invariant.some, c.decreases), (next_ready c.args.work.now c.args.own.now c.args.want.now c.args.left c.args.n c.args.memory.now c.args.children c.loop-j.work c.loop-j.m c.loop-j.j c.loop-j.invariant, c.requires.1, omega arith, omega (arith, c.loop-j.invariant.some, c.loop-j.invariant.within)))

pub returns-in_err-m : goal.returns-in_err-m
returns-in_err-m t c = rw c.from_residual.ensures (full c.args.work.now c.args.own.now c.args.want.now c.args.left c.args.n c.args.memory.now c.args.children c.loop-j.work c.loop-j.m c.loop-j.j c.loop-j.invariant c.loop-j-test.true c.choosable.result c.choosable.ensures c.joined_with-joined.result c.with_child-with.result c.if-choosable.true (c.joined_with-joined.ensures c.args.want.now.tags c.loop-j.invariant.ready.few_tags) c.with_child-with.ensures c.in_err-m.ensures)

pub loop-j-preserved : goal.loop-j-preserved
loop-j-preserved t c = elim c.if-choosable.branch [
  | then-choosable+in_ok-m w ↦ rw (w.work-is, w.m-is) (again c.args.work.now c.args.own.now c.args.want.now c.args.left c.args.n c.args.memory.now c.args.children c.loop-j.work c.loop-j.m c.loop-j.j c.loop-j.invariant c.loop-j-test.true c.choosable.result c.choosable.ensures w.joined_with-joined.result w.with_child-with.result w.if-choosable.true (w.joined_with-joined.ensures c.args.want.now.tags c.loop-j.invariant.ready.few_tags) w.with_child-with.ensures w.search.new.work w.in_ok-m.m w.in_ok-m.ensures w.search.auto.work)
  | else-choosable w ↦ rw (w.work-is, w.m-is) (skip c.args.work.now c.args.own.now c.args.want.now c.args.left c.args.n c.args.memory.now c.args.children c.loop-j.work c.loop-j.m c.loop-j.j c.loop-j.invariant c.loop-j-test.true c.choosable.result c.choosable.ensures w.if-choosable.false)
]

pub shape_of-work : goal.shape_of-work
shape_of-work t c = c.loop-j.invariant.turning.space

pub returns : goal.returns
returns t c = all c.args.work.now c.args.own.now c.args.want.now c.args.left c.args.n c.args.memory.now c.args.children c.loop-j.work c.loop-j.m c.loop-j.j c.loop-j.invariant c.loop-j-test.false
