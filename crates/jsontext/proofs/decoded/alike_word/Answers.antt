-- Up to the lowest bit that tells the words apart or marks a byte. Assumes nothing.
use native.Mathlib.Omega.{arith}
use Rattle.jsontext.proofs.Bytewise.{word_marked}
use Rattle.jsontext.proofs.Agreeing.{alike_word}
use Rattle.jsontext.proofs.decoded.alike_word.Goals as goal

pub returns : goal.returns
returns c =
    alike_word c.args.s.now _ c.args.t.now _ _ _ _ (λ i l. omega (arith, c.shared_slice_known-1.given i)) (λ i l. omega (arith, c.shared_slice_known-2-1.given i)) c.requires.first c.requires.second
    c.word-w.ensures c.word.ensures
    (word_marked c.args.s.now _ _ _ (λ i l. omega (arith, c.shared_slice_known-1.given i)) c.requires.first c.word-w.ensures c.marks.ensures)
