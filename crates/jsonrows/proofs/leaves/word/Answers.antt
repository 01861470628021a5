-- The word breaks off, or it is whole and its leaf is finished behind it. Assumes nothing.
use native.Mathlib.Omega.{arith}
use mathlib.Core.Path.{refl}
use Rattle.base.proofs.Words.{word_short, word_whole, word_broken}
use Rattle.jsonrows.specs.State.{built_in}
use Rattle.jsonrows.proofs.Holding.{no_text, no_child}
use Rattle.jsonrows.proofs.LeafWays.{word_fault, word_is}
use Rattle.jsonrows.proofs.leaves.word.Goals as goal

pub overflow_add-result : goal.overflow_add-result
overflow_add-result c = omega (arith, word_short _ _ _ _ c.word_bytes-n.ensures, c.requires.fits)

pub returns-then-n-letters : goal.returns-then-n-letters
returns-then-n-letters c = word_fault _ _ (word_broken _ _ _ _ _ c.word_bytes-n.ensures c.if-n-letters.true)

pub returns : goal.returns
returns c = word_is (built_in c.args.source.now.text.now c.args.tables.now.rows c.args.tables.now.starts c.args.counts.used c.args.counts.texts) _ (word_whole _ _ _ _ _ c.word_bytes-n.ensures c.if-n-letters.false) refl (c.finish.ensures _ c.leaf.ensures (no_text _ _ refl c.requires.plain no_child))
