-- What the term reader said of the text, then whether it went to the end. Assumes nothing.
use mathlib.Core.Path.{◌≡◌, sym, ap}
use borrow.Author.Rules.{rules}
use Rattle.std.specs.Prelude.{Result, Err}
use Rattle.base.specs.declared.refusal.TextRefusal.{TextRefusal}
use Prim.Native.Nat.{ℕ, ◌*◌}
use lib.Seq.{length-take-le}
use Rattle.document.specs.Rows.{row_cells}
use Rattle.term.proofs.Texts.{ready_start, text_refused, text_inside, text_more, text_rows}
use Rattle.term.proofs.read_text.Goals as goal

pub term-requires : goal.term-requires
term-requires c = ready_start c.args.rows.now _ c.row_limit.ensures

pub returns-then-whole-text : goal.returns-then-whole-text
returns-then-whole-text c = text_more _ _ _ _ _ _ c.requires.counted c.row_limit.ensures _ _ _ c.term.ensures _ c.in_ok-whole.was c.if-whole-text.true c.refused.result c.refused.ensures

pub slice_bounds-cells-end : goal.slice_bounds-cells-end
slice_bounds-cells-end c = text_inside _ _ _ c.args.rows.now _ _ c.requires.counted c.row_limit.ensures _ _ _ c.term.ensures _ c.in_ok-whole.was _ (ap (λ n. n * row_cells) c.from.ensures)

pub slice_bounds-put-end : goal.slice_bounds-put-end
slice_bounds-put-end c =
    sym (length-take-le _ _
    (text_inside _ _ _ c.args.rows.now _ _ c.requires.counted c.row_limit.ensures _ _ _ c.term.ensures _ c.in_ok-whole.was _ (ap (λ n. n * row_cells) c.from.ensures)))

pub returns-in_err-whole : goal.returns-in_err-whole
returns-in_err-whole c =
    let is : ◌≡◌ {A = Result ℕ TextRefusal} c.from_residual.result (Err c.in_err-whole.field-0.0) = search rules in
    text_refused _ _ _ _ _ _ c.requires.counted c.row_limit.ensures _ _ _ c.term.ensures c.in_err-whole.field-0.0 c.in_err-whole.was c.from_residual.result is

pub returns : goal.returns
returns c = text_rows _ _ _ _ _ _ c.requires.counted c.row_limit.ensures _ _ _ c.term.ensures _ c.in_ok-whole.was c.if-whole-text.false _ _ (ap (λ n. n * row_cells) c.from.ensures) c.put.ensures
