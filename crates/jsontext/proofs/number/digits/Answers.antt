-- At the loop's head the digits left come to the whole of them. Assumes nothing.
use mathlib.Core.Path.{◌≡◌, sym, ap, ◌∙◌, subst}
use native.Mathlib.Omega.{arith}
use Prim.Native.Nat.{ℕ}
use Rattle.std.specs.Prelude.{Ok}
use Rattle.jsontext.specs.NumberAnswer.{Bounded}
use Rattle.jsontext.proofs.DigitRuns.{scanned_end, scanned_stop, scanned_more}
use Rattle.jsontext.proofs.number.digits.Goals as goal

pub returns-then-not-is_digit : goal.returns-then-not-is_digit
returns-then-not-is_digit c = record { value = λ l. scanned_stop _ _ _ _ _ _ c.loop-i.invariant.0 (omega arith) (sym (c.is_digit.ensures.compared l) ∙ c.if-not-is_digit.true) l; bounds = (c.loop-i.invariant.0.bounded, c.loop-i.invariant.0.more) }

pub loop-i-preserved : goal.loop-i-preserved
loop-i-preserved c = (
  scanned_more _ _ _ _ _ _ c.loop-i.invariant.0 (omega arith) (λ l. sym (c.is_digit.ensures.compared l) ∙ c.if-not-is_digit.false)
      _ c.with_digit-run.ensures.counted c.with_digit-run.ensures.short c.with_digit-run.ensures.held,
  omega arith,
)

pub returns : goal.returns
returns c =
    let end : c.loop-i.i ≡ c.max.result = omega (arith, c.loop-i.invariant.1, c.max.ensures) in
    record { value = λ l d b. ap (λ (n : ℕ). Ok (c.loop-i.run, n)) (sym end) ∙ scanned_end _ _ _ _ _ _ c.loop-i.invariant.0 c.loop-i-test.false l d b; bounds = (subst (Bounded c.loop-i.run) end c.loop-i.invariant.0.bounded, c.loop-i.invariant.0.more) }
