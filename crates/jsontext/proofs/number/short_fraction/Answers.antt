-- The digits behind the point follow those before it. Assumes nothing.
use mathlib.Core.Path.{◌∙◌}
use Prim.Native.Nat.{◌-◌}
use native.Mathlib.Omega.{arith}
use Rattle.jsontext.specs.Number.{digits_of}
use Rattle.jsontext.specs.NumberAnswer.{Short}
use Rattle.jsontext.proofs.ShortRuns.{strictly_between, carried_short, fraction_short, fraction_is}
use Rattle.jsontext.proofs.number.short_fraction.Goals as goal

pub returns : goal.returns
returns c l is point =
    let ends = strictly_between _ _ _ c.if-next-first.false c.few_digits-run.ensures.within.forward c.few_digits-run.ensures.within.inside in
    let n = c.few_digits-run.result.end - c.args.at - 1 in
    let short : Short c.few_digits-run.result.value n = fraction_short _ _ _ c.requires _ ends.0 c.few_digits-run.ensures.within in
    c.behind_digits.ensures l (digits_of c.few_digits-run.result.value n) (carried_short _ n short (omega (arith, ends)))
    ∙ fraction_is _ _ _ c.requires _ ends.0 (c.few_digits-run.ensures.few_read l) ends.1 is point
