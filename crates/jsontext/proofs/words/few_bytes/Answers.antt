-- A word with the other bytes shifted out, or each byte. Assumes nothing.
use native.Mathlib.Omega.{arith}
use Rattle.jsontext.proofs.Joining.{word_cut}
use Rattle.jsontext.proofs.words.few_bytes.Goals as goal

pub returns-then-bytes-at-ge-WORD : goal.returns-then-bytes-at-ge-WORD
returns-then-bytes-at-ge-WORD c = word_cut c.args.bytes.now (λ i l. omega (arith, c.shared_slice_known-1.given i)) c.args.at c.args.n _ (omega (arith, c.requires.1)) c.word.ensures
