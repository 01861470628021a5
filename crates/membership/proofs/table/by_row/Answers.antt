use mathlib.Core.Path.{refl, ap, ◌∙◌}
use Prim.Native.Nat.{◌+◌}
use native.Mathlib.Omega.{arith}
use Rattle.automaton.specs.Stored.{decode}
use Rattle.membership.proofs.FirstRules.{first_at}
use Rattle.membership.proofs.Own.{bounds_whole}
use Rattle.membership.proofs.Rowing.{zeros, width_small, symbol_small, row_small, tags_small, rowing_start, next_ready, rowing_more, rowing_full, rowing_all}
use Rattle.membership.proofs.table.by_row.Goals as goal

pub loop-r-init : goal.loop-r-init
loop-r-init c =
    let small = symbol_small c.args.set.now c.args.rows.now c.args.i.0 c.requires.sound.0 c.requires.sound.1 c.requires.before.row c.symbol-f.result c.symbol-f.ensures in
    let width = width_small c.args.set.now c.args.rows.now c.args.i.0 c.requires.sound.0 c.requires.sound.1 c.requires.before.row c.symbol-f.result c.from-width.result (c.from-width.ensures ∙ c.arity.ensures) in
    rowing_start c.args.set.now c.args.rows.now c.args.starts.now c.args.work.now c.args.i.0 c.args.tags c.args.room c.args.n c.symbol-f.result c.from-width.result c.bounds-low.result c.bounds-high.result c.cell_at-end.result c.cell_at-first.result c.requires.sound.0 c.requires.sound.1 c.requires.before c.requires.starts.0 c.symbol-f.ensures (c.from-width.ensures ∙ c.arity.ensures) (bounds_whole c.args.rows.now c.args.starts.now c.args.i.0 c.from-width.result 0 c.bounds-low.result width c.bounds-low.ensures) (bounds_whole c.args.rows.now c.args.starts.now c.args.i.0 c.from-width.result 1 c.bounds-high.result width c.bounds-high.ensures) (first_at (decode c.args.set.now) c.args.firsts.now c.symbol-f.result c.from-at.result c.cell_at-first.result c.requires.starts.1 (omega (arith, small)) c.from-at.ensures c.cell_at-first.ensures) (first_at (decode c.args.set.now) c.args.firsts.now (c.symbol-f.result + 1) (c.from-at.result + 1) c.cell_at-end.result c.requires.starts.1 (omega (arith, small)) (ap (λ z. z + 1) c.from-at.ensures) c.cell_at-end.ensures)

pub own_memory-own-requires : goal.own_memory-own-requires
own_memory-own-requires c = (tags_small c.args.set.now c.args.tags c.loop-r.invariant.ok c.loop-r.invariant.before.tags_are, row_small c.args.set.now c.args.rows.now c.args.i.0 c.loop-r.invariant.ok c.loop-r.invariant.table c.loop-r.invariant.before.row)

pub search-requires : goal.search-requires
search-requires c =
    let arity-is = c.want_for-want.ensures.arity in
    (next_ready c.args.set.now c.args.rows.now c.args.starts.now c.args.work.now c.args.i.0 c.args.tags c.args.room c.args.n c.symbol-f.result c.from-width.result c.bounds-low.result c.bounds-high.result c.cell_at-end.result c.cell_at-first.result c.loop-r.work c.loop-r.m c.loop-r.r c.loop-r.invariant c.loop-r-test.true _ c.want_for-want.result c.want_for-want.ensures refl refl refl refl refl refl refl, omega arith, omega arith, omega (arith, arity-is))

pub returns-in_err-m : goal.returns-in_err-m
returns-in_err-m c = rw c.from_residual.ensures (rowing_full c.args.set.now c.args.rows.now c.args.starts.now c.args.work.now c.args.i.0 c.args.tags c.args.room c.args.n c.symbol-f.result c.from-width.result c.bounds-low.result c.bounds-high.result c.cell_at-end.result c.cell_at-first.result c.loop-r.work c.loop-r.m c.loop-r.r c.loop-r.invariant c.loop-r-test.true _ c.want_for-want.result c.want_for-want.ensures refl refl refl refl refl refl refl c.tags_of.result c.own_memory-own.result c.tags_of.ensures c.own_memory-own.ensures _ _ (zeros 16) refl c.search.new.work c.in_err-m.ensures)

pub loop-r-preserved : goal.loop-r-preserved
loop-r-preserved c = rowing_more c.args.set.now c.args.rows.now c.args.starts.now c.args.work.now c.args.i.0 c.args.tags c.args.room c.args.n c.symbol-f.result c.from-width.result c.bounds-low.result c.bounds-high.result c.cell_at-end.result c.cell_at-first.result c.loop-r.work c.loop-r.m c.loop-r.r c.loop-r.invariant c.loop-r-test.true _ c.want_for-want.result c.want_for-want.ensures refl refl refl refl refl refl refl c.tags_of.result c.own_memory-own.result c.tags_of.ensures c.own_memory-own.ensures _ _ (zeros 16) refl c.search.new.work c.in_ok-m.m c.in_ok-m.ensures c.search.auto.work

pub shape_of-work : goal.shape_of-work
shape_of-work c = c.loop-r.invariant.turning.space

pub returns : goal.returns
returns c = rowing_all c.args.set.now c.args.rows.now c.args.starts.now c.args.work.now c.args.i.0 c.args.tags c.args.room c.args.n c.symbol-f.result c.from-width.result c.bounds-low.result c.bounds-high.result c.cell_at-end.result c.cell_at-first.result c.loop-r.work c.loop-r.m c.loop-r.r c.loop-r.invariant c.loop-r-test.false
