-- What the reader of values said of the text, then whether only white space follows. Assumes nothing.
use mathlib.Core.Path.{refl, sym, ap}
use native.Mathlib.Omega.{arith}
use Prim.Native.Nat.{ℕ, ◌*◌}
use lib.ListN.{length-replicate}
use lib.Seq.{length-take-le}
use Rattle.std.proofs.lemmas.Result.{err_from_is_err_and}
use Rattle.model.specs.Limits.{max_rows}
use Rattle.document.specs.Rows.{row_cells}
use Rattle.jsonrows.proofs.Holding.{said}
use Rattle.jsonrows.proofs.CycleWays.{no_object}
use Rattle.jsonrows.proofs.WholeTexts.{holds_none, text_refused, text_inside, text_more, text_rows}
use Rattle.jsonrows.proofs.read_text.Goals as goal

pub items-requires : goal.items-requires
items-requires c = record { holds = holds_none c.args.rows.now _ c.requires _ _ _ (length-replicate {A = ℕ} (max_rows * row_cells) 0) (length-replicate {A = ℕ} (2 * max_rows) 0); bounds = omega arith; below = λ a. no_object (sym a); single = λ a. refl }

pub returns-then-end-source : goal.returns-then-end-source
returns-then-end-source c = text_more _ _ _ _ _ c.requires (c.space_end-first.ensures c.args.source.now.lent) c.in_ok-part.ensures.says refl (c.space_end-end.ensures c.args.source.now.lent) c.if-end-source.true

pub shared_ref_as_front-put : goal.shared_ref_as_front-put
shared_ref_as_front-put c = omega (arith, c.from.ensures, (said c.in_ok-part.ensures.says refl).holds.ready.built.few)

pub slice_bounds-put-end : goal.slice_bounds-put-end
slice_bounds-put-end c =
    sym (length-take-le _ _
    (text_inside _ _ c.args.rows.now _ _ c.requires (c.space_end-first.ensures c.args.source.now.lent) c.in_ok-part.ensures.says refl _ (ap (λ n. n * row_cells) c.from.ensures)))

pub returns-in_err-part : goal.returns-in_err-part
returns-in_err-part c = let p = err_from_is_err_and c.from_residual.result c.from_residual.ensures.1 in rw (p.1, p.2) (text_refused _ _ _ _ _ c.requires (c.space_end-first.ensures c.args.source.now.lent) c.in_err-part.ensures.says refl)

pub returns : goal.returns
returns c = text_rows _ _ _ _ _ c.requires (c.space_end-first.ensures c.args.source.now.lent) c.in_ok-part.ensures.says refl (c.space_end-end.ensures c.args.source.now.lent) c.if-end-source.false _ _ (ap (λ n. n * row_cells) c.from.ensures) c.put.ensures
