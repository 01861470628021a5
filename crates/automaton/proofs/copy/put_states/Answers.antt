use mathlib.Core.List.{map}
use mathlib.Core.Path.{sym, ap, ◌∙◌}
use Prim.Native.Nat.{ℕ, ◌*◌, ◌<◌}
use native.Mathlib.Omega.{arith}
use lib.ListN.{length}
use Rattle.automaton.specs.Stored.{decode}
use Rattle.automaton.proofs.Laying.{parts_none, parts_put, parts_all, parts_fit, parts_stay, put_laid}
use lib.ListN.{length-map}
use Rattle.model.specs.Automaton.{no_state}
use Rattle.model.specs.Boolean.{shift_state}
use Rattle.automaton.specs.Form.{state_width}
use Rattle.automaton.proofs.Encoded.{encode_of, state_width_lem}
use Rattle.automaton.proofs.Shifted.{shifted_bytes}
use Rattle.automaton.proofs.copy.put_states.Goals as goal

pub returns-then-not-fits : goal.returns-then-not-fits
returns-then-not-fits c =
    let n = c.header-n.ensures.states ∙ sym (length-map (decode c.args.set.now).states (shift_state c.args.t)) in
    parts_stay (encode_of c.args.form) (state_width c.args.form) (state_width_lem c.args.form) (map (shift_state c.args.t) (decode c.args.set.now).states) c.args.out.now c.args.at _ _ (c.states_length.ensures.0 ∙ ap (λ (z : ℕ). state_width c.args.form * z) n) c.fits.ensures c.if-not-fits.true

pub loop-q-init : goal.loop-q-init
loop-q-init c =
    let n = c.header-n.ensures.states ∙ sym (length-map (decode c.args.set.now).states (shift_state c.args.t)) in
    (n, parts_none _ no_state _ _ _ (parts_fit (encode_of c.args.form) (state_width c.args.form) (state_width_lem c.args.form) (map (shift_state c.args.t) (decode c.args.set.now).states) c.args.out.now c.args.at _ _ (c.states_length.ensures.0 ∙ ap (λ (z : ℕ). state_width c.args.form * z) n) c.fits.ensures c.if-not-fits.false))

pub loop-q-preserved : goal.loop-q-preserved
loop-q-preserved c =
    let l : c.loop-q.q < length (decode c.args.set.now).states = omega (arith, c.loop-q.invariant.0, length-map (decode c.args.set.now).states (shift_state c.args.t)) in (
      c.loop-q.invariant.0,
      parts_put _ no_state _ _ _ _ _ _ c.loop-q.invariant.1 _ _ _ (omega (arith, c.loop-q.invariant.0))
          (shifted_bytes c.args.form (decode c.args.set.now) c.args.t c.loop-q.q l _ _ _ c.is_final-accepting.ensures c.tags_of.ensures c.moved_up-mask.ensures)
          c.put_state-end.ensures,
    )

pub returns : goal.returns
returns c = put_laid _ _ _ _ _ (parts_all _ no_state _ _ _ _ _ _ c.loop-q.invariant.1 (omega (arith, c.loop-q.invariant.0)))
