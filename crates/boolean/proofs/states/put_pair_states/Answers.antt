use mathlib.Core.Path.{◌≡◌, ap, sym, ◌∙◌}
use Prim.Native.Nat.{ℕ, ◌*◌, ◌/◌, ◌%◌, ◌^◌, ◌<◌}
use native.Mathlib.Omega.{arith}
use lib.ListN.{length}
use Rattle.model.specs.Automaton.{no_state, state_at, final?}
use Rattle.model.specs.Boolean.{product}
use Rattle.model.proofs.SoundProduct.{product_states}
use Rattle.automaton.specs.Stored.{decode}
use Rattle.automaton.proofs.Sound.{sound_decode}
use Rattle.automaton.proofs.Known.{known_mask}
use Rattle.automaton.proofs.Laying.{parts_none, parts_put, parts_all, laid_length}
use Rattle.boolean.proofs.Stating.{pair_low, shift_whole, pair_bytes}
use Rattle.boolean.proofs.states.put_pair_states.Goals as goal

pub overflow_mul-n : goal.overflow_mul-n
overflow_mul-n c =
    let A = decode c.args.sets.first.now in
    let B = decode c.args.sets.second.now in
    let e : c.header-a.result.states * c.header-b.result.states ≡ length (product A B).states = ap (λ (z : ℕ). z * c.header-b.result.states) c.header-a.ensures.states ∙ ap (length A.states *◌) c.header-b.ensures.states ∙ sym (product_states A B) in
    omega arith

pub loop-i-init : goal.loop-i-init
loop-i-init c =
    let A = decode c.args.sets.first.now in
    let B = decode c.args.sets.second.now in
    (ap (λ (z : ℕ). z * c.header-b.result.states) c.header-a.ensures.states ∙ ap (length A.states *◌) c.header-b.ensures.states ∙ sym (product_states A B), parts_none _ no_state _ _ _ c.requires.1)

pub nonzero_div-p : goal.nonzero_div-p
nonzero_div-p c = let s = (sound_decode _ c.requires.0.second_sound).some_state in omega arith

pub nonzero_rem-q : goal.nonzero_rem-q
nonzero_rem-q c = let s = (sound_decode _ c.requires.0.second_sound).some_state in omega arith

pub overflow_add-mask : goal.overflow_add-mask
overflow_add-mask c =
    let A = decode c.args.sets.first.now in
    let B = decode c.args.sets.second.now in
    let m = known_mask A (sound_decode _ c.requires.0.first_sound) c.tags_of.result _ c.tags_of.ensures in
    let k = known_mask B (sound_decode _ c.requires.0.second_sound) c.tags_of-in-loop-i.result _ c.tags_of-in-loop-i.ensures in
    let x : c.moved_up.result ≡ c.tags_of-in-loop-i.result * 2 ^ A.tags = shift_whole _ _ _ B.tags _ c.header-a.ensures.tags k c.requires.0.tags c.moved_up.ensures in
    let l = pair_low c.tags_of.result c.tags_of-in-loop-i.result A.tags B.tags m k c.requires.0.tags in
    omega arith

pub loop-i-preserved : goal.loop-i-preserved
loop-i-preserved c =
    let A = decode c.args.sets.first.now in
    let B = decode c.args.sets.second.now in
    let k = known_mask B (sound_decode _ c.requires.0.second_sound) c.tags_of-in-loop-i.result _ c.tags_of-in-loop-i.ensures in
    let l : c.loop-i.i < length A.states * length B.states = omega (arith, c.loop-i.invariant.0, product_states A B) in (
      c.loop-i.invariant.0,
      parts_put _ no_state _ _ _ _ _ _ c.loop-i.invariant.1 _ _ _ (omega (arith, c.loop-i.invariant.0))
          (pair_bytes c.args.form A B c.loop-i.i l _ _ _ c.tags_of-in-loop-i.result _
          (c.is_final.ensures ∙ ap (λ (z : ℕ). final? A (c.loop-i.i / z)) c.header-b.ensures.states)
          (c.is_final-in-loop-i.ensures ∙ ap (λ (z : ℕ). final? B (c.loop-i.i % z)) c.header-b.ensures.states)
          (c.tags_of.ensures ∙ ap (λ (z : ℕ). (state_at A (c.loop-i.i / z)).mask) c.header-b.ensures.states)
          (shift_whole _ _ _ B.tags _ c.header-a.ensures.tags k c.requires.0.tags c.moved_up.ensures)
          (c.tags_of-in-loop-i.ensures ∙ ap (λ (z : ℕ). (state_at B (c.loop-i.i % z)).mask) c.header-b.ensures.states))
          c.put_state-end.ensures,
    )

pub shape_of-out : goal.shape_of-out
shape_of-out c = laid_length c.loop-i.invariant.1.laid

pub returns : goal.returns
returns c = parts_all _ no_state _ _ _ _ _ _ c.loop-i.invariant.1 (omega (arith, c.loop-i.invariant.0))
