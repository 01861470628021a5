use mathlib.Core.Path.{sym, subst}
use Prim.Native.Nat.{ℕ, ◌+◌}
use native.Mathlib.Omega.{arith}
use Rattle.automaton.specs.Stored.{decode}
use Rattle.automaton.proofs.Sound.{sound_decode}
use Rattle.automaton.proofs.Known.{known_symbol}
use Rattle.boolean.specs.Ready.{Window}
use Rattle.boolean.proofs.Windows.{Counted, window_up, counted_none, counted_more, counted_all}
use Rattle.boolean.proofs.pairs.count.Goals as goal

pub loop-i-init : goal.loop-i-init
loop-i-init c = (c.header-n.ensures.rules, counted_none _ _)

pub window-w-requires : goal.window-w-requires
window-w-requires c =
    let s = sound_decode c.args.sets.first.now c.args.sets.first_sound in
    let k = known_symbol (decode c.args.sets.first.now) s c.rule_symbol.result c.loop-i.i (omega (arith, c.loop-i.invariant.0)) c.rule_symbol.ensures in
    (c.args.sets.second_sound, omega (arith, s.few_symbols))

pub overflow_sub-w : goal.overflow_sub-w
overflow_sub-w c = window_up _ _ _ _ c.window-w.ensures

pub overflow_add-total : goal.overflow_add-total
overflow_add-total c =
    let f = (sound_decode c.args.sets.first.now c.args.sets.first_sound).few_rules in
    omega arith

pub loop-i-preserved : goal.loop-i-preserved
loop-i-preserved c = (c.loop-i.invariant.0, subst (λ (n : ℕ). Counted (decode c.args.sets.first.now) (decode c.args.sets.second.now) (c.loop-i.total + n) (c.loop-i.i + 1)) (sym c.from-total.ensures) (counted_more _ _ _ _ _ _ c.loop-i.invariant.1 (omega (arith, c.loop-i.invariant.0)) (subst (λ (f : ℕ). Window (decode c.args.sets.second.now) f c.window-w.result.start c.window-w.result.end) c.rule_symbol.ensures c.window-w.ensures) (omega arith)))

pub returns : goal.returns
returns c = counted_all _ _ _ _ c.loop-i.invariant.1 (omega (arith, c.loop-i.invariant.0))
