-- `automaton::write::put_words` meets its contract: numbers that fit are pasted. Assumes nothing.
use Prim.Native.Nat.{◌+◌, ◌*◌, ◌≤◌}
use lib.ListN.{length}
use mathlib.Core.Path.{sym}
use Rattle.model.specs.Lists.{concat_map}
use Rattle.automaton.specs.Encode.{encode_word}
use Rattle.automaton.proofs.Words.{length_words}
use Rattle.automaton.proofs.Put.{fits_so, fits_not, put_done, put_stays}
use Rattle.automaton.proofs.write.put_words.Goals as goal

pub returns-then-fits : goal.returns-then-fits
returns-then-fits c =
    let h : c.args.at + 2 * length c.args.words.now ≤ length c.args.out.now = fits_so _ _ _ c.fits.ensures c.if-fits.true in
    put_done c.args.out.now c.args.at (concat_map encode_word c.args.words.now) (rw length_words h) _ _ (sym (length_words c.args.words.now)) c.paste_words.ensures

pub returns : goal.returns
returns c = put_stays c.args.out.now c.args.at (concat_map encode_word c.args.words.now) (rw length_words (fits_not _ _ _ c.fits.ensures c.if-fits.false))
