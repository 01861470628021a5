use mathlib.Core.Path.{◌≡◌, sym, subst, ◌∙◌}
use mathlib.Core.List.{map}
use Prim.Native.Nat.{ℕ, ◌+◌}
use native.Mathlib.Omega.{arith}
use lib.ListN.{length-map}
use Rattle.model.specs.Written.{rule_at}
use Rattle.automaton.specs.Stored.{decode}
use Rattle.automaton.proofs.Sound.{sound_decode}
use Rattle.automaton.proofs.Known.{known_symbol}
use Rattle.boolean.specs.Key.{packed}
use Rattle.automaton.specs.Laid.{Laid}
use Rattle.boolean.specs.Ready.{Window, row}
use Rattle.automaton.proofs.Laying.{laid_length}
use Rattle.boolean.proofs.Laying.{filling_none, filling_at, filling_all}
use Rattle.boolean.proofs.Windows.{window_up, row_length_lem}
use Rattle.boolean.proofs.Results.{paired_key_at}
use Rattle.boolean.proofs.pairs.row_keys.Goals as goal

pub window-w-requires : goal.window-w-requires
window-w-requires c =
    let s = sound_decode c.args.sets.first.now c.args.sets.first_sound in
    let k = known_symbol (decode c.args.sets.first.now) s c.rule-r.result.symbol c.args.i c.requires.0 c.rule-r.ensures.symbol in
    (c.args.sets.second_sound, omega (arith, s.few_symbols))

pub overflow_sub-n : goal.overflow_sub-n
overflow_sub-n c = window_up _ _ _ _ c.window-w.ensures

pub loop-k-init : goal.loop-k-init
loop-k-init c =
    let R = row (decode c.args.sets.first.now).tags (decode c.args.sets.second.now) (rule_at (decode c.args.sets.first.now) c.args.i) in
    let e = row_length_lem _ (decode c.args.sets.second.now) (rule_at (decode c.args.sets.first.now) c.args.i) _ _ (subst (λ (f : ℕ). Window (decode c.args.sets.second.now) f c.window-w.result.start c.window-w.result.end) c.rule-r.ensures.symbol c.window-w.ensures) in
    let d = length-map R packed in
    (sym (d ∙ e), filling_none _ _ _ (omega arith))

pub paired_key-requires : goal.paired_key-requires
paired_key-requires c = let l = (sound_decode _ c.args.sets.second_sound).few_states in omega arith

pub bounds-keys-at : goal.bounds-keys-at
bounds-keys-at c =
    let d = laid_length c.loop-k.invariant.1.laid in
    omega arith

pub loop-k-preserved : goal.loop-k-preserved
loop-k-preserved c =
    let w = (subst (λ (f : ℕ). Window (decode c.args.sets.second.now) f c.window-w.result.start c.window-w.result.end) c.rule-r.ensures.symbol c.window-w.ensures) in (
      c.loop-k.invariant.0,
      filling_at _ _ _ _ _ c.loop-k.invariant.1 _ _ c.from.ensures (omega (arith, c.loop-k.invariant.0))
          (paired_key_at (decode c.args.sets.first.now) (sound_decode _ c.args.sets.first_sound) c.args.i c.requires.0 c.rule-r.result c.rule-r.ensures
          (decode c.args.sets.second.now) (sound_decode _ c.args.sets.second_sound) c.args.sets.same _ _ _ w (omega arith) c.rule-s.result c.rule-s.ensures
          _ _ _ c.header-states.ensures.states c.header-tags.ensures.tags c.paired_key.ensures),
    )

pub shape_of-keys : goal.shape_of-keys
shape_of-keys c = laid_length c.loop-k.invariant.1.laid

pub returns : goal.returns
returns c =
    let z : c.loop-k.k ≡ c.from-2.result = omega (arith, c.loop-k.invariant.0) in
    subst (λ (n : ℕ). Laid c.args.keys.now c.loop-k.keys c.args.at (c.args.at + n) (map packed (row (decode c.args.sets.first.now).tags (decode c.args.sets.second.now) (rule_at (decode c.args.sets.first.now) c.args.i)))) z (filling_all _ _ _ _ _ c.loop-k.invariant.1 (omega (arith, c.loop-k.invariant.0)))
