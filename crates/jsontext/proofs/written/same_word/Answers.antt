-- What is shifted out is not compared. Assumes nothing.
use borrow.Author.Tests.{eqb-true}
use native.Mathlib.Omega.{arith}
use Rattle.jsontext.proofs.Writing.{alike_word}
use Rattle.jsontext.proofs.written.same_word.Goals as goal

pub returns : goal.returns
returns c e =
    alike_word _ _ _ _ _ c.requires.some.1 c.requires.first c.requires.second
    (λ i l. omega (arith, c.shared_slice_known-1.given i))
    (λ i l. omega (arith, c.shared_slice_known-2-1.given i))
    _ _ c.word.ensures c.word-2.ensures c.if-word-others.false
    _ c.word_marks.ensures (eqb-true _ _ e)
