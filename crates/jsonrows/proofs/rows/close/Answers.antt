-- Another byte is refused; the mark stands inside the text, and its leaf is finished behind it. Assumes nothing.
use mathlib.Core.Path.{refl, sym, ap, ◌∙◌}
use native.Mathlib.Omega.{arith}
use Rattle.document.specs.declared.scalar.Scalar.TheVariants.{Bare}
use Rattle.jsonrows.specs.Grammar.{leaf_row}
use Rattle.jsonrows.proofs.Holding.{no_text, no_child}
use Rattle.jsonrows.proofs.Closing.{close_wrong, close_right}
use Rattle.jsonrows.proofs.rows.close.Goals as goal

pub returns-then-byte_at-mark : goal.returns-then-byte_at-mark
returns-then-byte_at-mark c = close_wrong _ _ _ _ (λ e. c.if-byte_at-mark.true (c.byte_at.ensures ∙ e ∙ sym c.mark.ensures.0))

pub returns : goal.returns
returns c = close_right _ _ _ _ (sym c.byte_at.ensures ∙ c.if-byte_at-mark.false ∙ c.mark.ensures.0) (ap (λ n. leaf_row n Bare) c.closing.ensures.0) (c.finish.ensures _ c.leaf.ensures (no_text _ _ refl (λ e. omega (arith, e, c.closing.ensures.1)) no_child))
