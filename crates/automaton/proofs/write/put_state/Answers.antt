-- `automaton::write::put_state` meets its contract: as many bytes as the form has, where they fit. Assumes nothing.
use mathlib.Core.Path.{◌≡◌, refl, sym, ap, ◌∙◌}
use mathlib.Core.Bool.{Bool, true, false, cond}
use mathlib.Core.List.{List}
use Prim.Native.Nat.{ℕ, ◌+◌, ◌<◌}
use lib.ListN.{length, get_or}
use Rattle.std.specs.Int.{from_bool}
use Rattle.model.specs.Space.{put_at}
use Rattle.automaton.specs.Encode.{encode_state}
use Rattle.automaton.proofs.Put.{fits_so, fits_not, put_whole, put_stays, state_bytes, state_length}
use Rattle.automaton.proofs.write.put_state.Goals as goal

flag_byte : (b : Bool) → from_bool b ≡ cond b 1 0
flag_byte true = refl
flag_byte false = refl

pub returns-then-fits : goal.returns-then-fits
returns-then-fits c =
    let bytes = state_bytes c.args.form c.args.accepting c.args.mask _ _ _ _ c.state_width-n.ensures.0 (c.from.ensures ∙ flag_byte c.args.accepting) (ap (λ (l : List ℕ). get_or l 0 0) c.to_le_bytes.ensures) (ap (λ (l : List ℕ). get_or l 1 0) c.to_le_bytes.ensures) in
    put_whole c.args.out.now c.args.at (encode_state c.args.form c.args.accepting c.args.mask) _ _
    (c.state_width-n.ensures.0 ∙ sym (state_length c.args.form c.args.accepting c.args.mask))
    (fits_so _ _ _ c.fits.ensures c.if-fits.true)
    (c.put.ensures ∙ ap (put_at c.args.out.now c.args.at) bytes)

pub returns : goal.returns
returns c =
    let n = c.state_width-n.ensures.0 ∙ sym (state_length c.args.form c.args.accepting c.args.mask) in
    let h : length c.args.out.now < c.args.at + c.state_width-n.result = fits_not _ _ _ c.fits.ensures c.if-fits.false in
    put_stays c.args.out.now c.args.at (encode_state c.args.form c.args.accepting c.args.mask) (rw (← n) h)
