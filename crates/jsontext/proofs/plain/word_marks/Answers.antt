-- The word's marks. Assumes nothing.
use native.Mathlib.Omega.{arith}
use Rattle.jsontext.proofs.Bytewise.{word_marked}
use Rattle.jsontext.proofs.plain.word_marks.Goals as goal

pub returns : goal.returns
returns c = word_marked c.args.text.now c.args.i _ _ (λ i l. omega (arith, c.shared_slice_known-1.given i)) c.requires c.word.ensures c.marks.ensures
