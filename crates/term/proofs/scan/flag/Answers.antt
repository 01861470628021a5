-- The word is whole, or it breaks off. Assumes nothing.
use native.Mathlib.Omega.{arith}
use Rattle.base.proofs.Words.{word_whole, word_broken, word_short}
use Rattle.term.proofs.scan.flag.Goals as goal

pub returns-then-n-word : goal.returns-then-n-word
returns-then-n-word c = word_broken _ _ _ _ _ c.word_bytes-n.ensures c.if-n-word.true

pub overflow_add-result : goal.overflow_add-result
overflow_add-result c = omega (arith, word_short _ _ _ _ c.word_bytes-n.ensures)

pub returns : goal.returns
returns c = word_whole _ _ _ _ _ c.word_bytes-n.ensures c.if-n-word.false
