use mathlib.Core.Path.{ap, ◌∙◌}
use Prim.Native.Nat.{◌+◌}
use native.Mathlib.Omega.{arith}
use Rattle.automaton.specs.Stored.{decode}
use Rattle.membership.proofs.FirstRules.{first_at}
use Rattle.judging.proofs.Rowing.{separate_of, width_small, symbol_small, rowing_start, next_ready, next_windows, few_here, rowing_more, rowing_full, rowing_all}
use Rattle.judging.proofs.table.by_row.Goals as goal

pub plan_for-plan-requires : goal.plan_for-plan-requires
plan_for-plan-requires c = width_small c.args.set.now c.args.rows.now c.args.i.0 c.requires.sound.0 c.requires.sound.1 c.requires.before.row c.symbol-f.result c.from-width.result (c.from-width.ensures ∙ c.arity.ensures)

pub open_windows-requires : goal.open_windows-requires
open_windows-requires c = separate_of c.args.set.now c.args.rows.now c.args.starts.now c.args.work.now c.args.slots.now c.args.i.0 c.args.tags c.args.room c.args.n c.symbol-f.result c.from-width.result c.plan_for-plan.result c.requires.sound.0 c.requires.sound.1 c.requires.before c.requires.starts.0 c.symbol-f.ensures (c.from-width.ensures ∙ c.arity.ensures) c.plan_for-plan.ensures

pub loop-r-init : goal.loop-r-init
loop-r-init c =
    let small = symbol_small c.args.set.now c.args.rows.now c.args.i.0 c.requires.sound.0 c.requires.sound.1 c.requires.before.row c.symbol-f.result c.symbol-f.ensures in
    rowing_start c.args.set.now c.args.rows.now c.args.starts.now c.args.rules.now c.args.work.now c.args.slots.now c.args.i.0 c.args.tags c.args.room c.args.n c.symbol-f.result c.from-width.result c.plan_for-plan.result c.open_windows.new.chains.heads c.open_windows.new.chains.links c.cell_at-end.result c.cell_at-first.result c.requires.sound.0 c.requires.sound.1 c.requires.before c.requires.starts.0 c.symbol-f.ensures (c.from-width.ensures ∙ c.arity.ensures) c.plan_for-plan.ensures
    (first_at (decode c.args.set.now) c.args.firsts.now c.symbol-f.result c.from-at.result c.cell_at-first.result c.requires.starts.1 (omega (arith, small)) c.from-at.ensures c.cell_at-first.ensures)
    (first_at (decode c.args.set.now) c.args.firsts.now (c.symbol-f.result + 1) (c.from-at.result + 1) c.cell_at-end.result c.requires.starts.1 (omega (arith, small)) (ap (λ z. z + 1) c.from-at.ensures) c.cell_at-end.ensures)
    c.requires.rules_read.0 c.args.tried.now c.requires.rules_read.1 c.open_windows.ensures

pub by_rule-requires : goal.by_rule-requires
by_rule-requires c =
    let few = few_here c.args.set.now c.args.rows.now c.args.starts.now c.args.rules.now c.args.work.now c.args.slots.now c.args.i.0 c.args.tags c.args.room c.args.n c.symbol-f.result c.from-width.result c.plan_for-plan.result c.open_windows.new.chains.heads c.open_windows.new.chains.links c.cell_at-end.result c.cell_at-first.result c.loop-r.work c.loop-r.slots c.loop-r.children c.loop-r.tried c.loop-r.m c.loop-r.r c.loop-r.invariant c.loop-r-test.true in
    ((next_ready c.args.set.now c.args.rows.now c.args.starts.now c.args.rules.now c.args.work.now c.args.slots.now c.args.i.0 c.args.tags c.args.room c.args.n c.symbol-f.result c.from-width.result c.plan_for-plan.result c.open_windows.new.chains.heads c.open_windows.new.chains.links c.cell_at-end.result c.cell_at-first.result c.loop-r.work c.loop-r.slots c.loop-r.children c.loop-r.tried c.loop-r.m c.loop-r.r c.loop-r.invariant).0, few.0, few.1, c.loop-r.invariant.fresh, next_windows c.args.set.now c.args.rows.now c.args.starts.now c.args.rules.now c.args.work.now c.args.slots.now c.args.i.0 c.args.tags c.args.room c.args.n c.symbol-f.result c.from-width.result c.plan_for-plan.result c.open_windows.new.chains.heads c.open_windows.new.chains.links c.cell_at-end.result c.cell_at-first.result c.loop-r.work c.loop-r.slots c.loop-r.children c.loop-r.tried c.loop-r.m c.loop-r.r c.loop-r.invariant)

pub returns-in_err-m : goal.returns-in_err-m
returns-in_err-m c = rw c.from_residual.ensures (rowing_full c.args.set.now c.args.rows.now c.args.starts.now c.args.rules.now c.args.work.now c.args.slots.now c.args.i.0 c.args.tags c.args.room c.args.n c.symbol-f.result c.from-width.result c.plan_for-plan.result c.open_windows.new.chains.heads c.open_windows.new.chains.links c.cell_at-end.result c.cell_at-first.result c.loop-r.work c.loop-r.slots c.loop-r.children c.loop-r.tried c.loop-r.m c.loop-r.r c.loop-r.invariant c.loop-r-test.true c.by_rule.new.work c.by_rule.new.slots c.in_err-m.ensures.grown, tt)

pub loop-r-preserved : goal.loop-r-preserved
loop-r-preserved c = rowing_more c.args.set.now c.args.rows.now c.args.starts.now c.args.rules.now c.args.work.now c.args.slots.now c.args.i.0 c.args.tags c.args.room c.args.n c.symbol-f.result c.from-width.result c.plan_for-plan.result c.open_windows.new.chains.heads c.open_windows.new.chains.links c.cell_at-end.result c.cell_at-first.result c.loop-r.work c.loop-r.slots c.loop-r.children c.loop-r.tried c.loop-r.m c.loop-r.r c.loop-r.invariant c.loop-r-test.true c.by_rule.new.work c.by_rule.new.slots c.by_rule.new.children c.by_rule.new.tried c.in_ok-m.m c.in_ok-m.ensures.grown c.in_ok-m.ensures.alike.0 c.in_ok-m.ensures.alike.1 c.by_rule.auto.work

pub shape_of-work : goal.shape_of-work
shape_of-work c = c.loop-r.invariant.turning.space

pub returns : goal.returns
returns c = rowing_all c.args.set.now c.args.rows.now c.args.starts.now c.args.rules.now c.args.work.now c.args.slots.now c.args.i.0 c.args.tags c.args.room c.args.n c.symbol-f.result c.from-width.result c.plan_for-plan.result c.open_windows.new.chains.heads c.open_windows.new.chains.links c.cell_at-end.result c.cell_at-first.result c.loop-r.work c.loop-r.slots c.loop-r.children c.loop-r.tried c.loop-r.m c.loop-r.r c.loop-r.invariant c.loop-r-test.false
