-- Four cells, four, and two. Assumes nothing.
use mathlib.Core.Path.{ap, ◌∙◌}
use native.Mathlib.Omega.{arith}
use Prim.Native.Nat.{◌*◌}
use Rattle.model.specs.Space.{put_at}
use Rattle.document.specs.Rows.{row_cells}
use Rattle.document.specs.Words.{words_cells}
use Rattle.document.proofs.WordCells.{put_row_words}
use Rattle.document.proofs.words.put_words.Goals as goal

pub returns : goal.returns
returns c =
    put_row_words c.args.rows.now (c.from-at.result * 10) c.args.w.a c.args.w.b c.args.w.c c.put_four.new.rows c.put_four-2.new.rows c.put_two.new.rows (omega (arith, c.requires, c.from-at.ensures)) c.put_four.ensures c.put_four-2.ensures c.put_two.ensures
    ∙ ap (λ i. put_at c.args.rows.now (i * row_cells) (words_cells c.args.w.a c.args.w.b c.args.w.c)) c.from-at.ensures
