-- A point stands inside the text; the fraction's digits follow the whole part's. Assumes nothing.
use mathlib.Core.Path.{refl, sym, ap, ◌∙◌}
use Rattle.jsontext.specs.Number.{as_scalar, some_digits}
use Rattle.jsontext.specs.NumberAnswer.{number_of}
use Rattle.jsontext.proofs.Failing.{handed}
use Rattle.jsontext.proofs.NumberParts.{found, not_found, fraction_read, fraction_faults}
use Rattle.jsontext.proofs.NumberWays.{fraction_none, fraction_there}
use Rattle.jsontext.proofs.number.behind_whole.Goals as goal

pub returns-then-byte_at-ne46 : goal.returns-then-byte_at-ne46
returns-then-byte_at-ne46 c l d e = c.behind_digits.ensures l d e ∙ ap as_scalar (sym (fraction_none _ _ _ c.byte_at.ensures _ d c.if-byte_at-ne46.true))

pub returns : goal.returns
returns c =
    λ l d e.
    let f = found (some_digits _ d _) _ _ _ refl (c.in_ok-all.ensures.value l d e) in
    fraction_read _ _ d _ _ _ _ e f _ (c.behind_digits-2.ensures l f.digits f.held) _
    (fraction_there _ _ _ c.byte_at.ensures _ d c.if-byte_at-ne46.false)

pub returns-in_err-all : goal.returns-in_err-all
returns-in_err-all c =
    λ l d e.
    ap number_of (handed _ c.from_residual.ensures.1)
    ∙ fraction_faults _ _ d _ _ (not_found (some_digits _ d _) _ _ refl (c.in_err-all.ensures.value l d e))
    ∙ ap as_scalar (sym (fraction_there _ _ _ c.byte_at.ensures _ d c.if-byte_at-ne46.false))
