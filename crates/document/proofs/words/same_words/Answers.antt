-- The words are compared one by one. Assumes nothing.
use mathlib.Core.Path.{ap}
use native.Mathlib.Omega.{arith}
use Prim.Native.Nat.{◌*◌}
use borrow.Author.Rules.{rules}
use Rattle.document.proofs.WordCells.{words_same, no_row}
use Rattle.document.proofs.words.same_words.Goals as goal

pub returns-then-i-ge-MAX_ROWS : goal.returns-then-i-ge-MAX_ROWS
returns-then-i-ge-MAX_ROWS c = no_row c.args.rows.now c.args.w.a c.args.w.b c.args.w.c c.args.i.0 c.if-i-ge-MAX_ROWS.true

pub returns : goal.returns
returns c = words_same c.args.rows.now c.args.i.0 (c.from-at.result * 10) (ap (λ i. i * 10) c.from-at.ensures) c.args.w.a c.args.w.b c.args.w.c c.four.result c.four-2.result c.two.result (search rules) (search rules) (search rules) (search rules) c.two.ensures.1 c.four.ensures c.four-2.ensures c.two.ensures.0 (omega (arith, c.if-i-ge-MAX_ROWS.false))
