use mathlib.Core.Path.{◌≡◌, sym, ap, ◌∙◌}
use Prim.Native.Nat.{ℕ}
use mathlib.Core.Bool.{true}
use native.Mathlib.Omega.{arith}
use Rattle.names.specs.Names.{digit?}
use Rattle.term.specs.Scan.{byte_at, got}
use Rattle.base.proofs.Tenths.{tenth_fits, tenth_past}
use Rattle.term.proofs.Numbers.{digits_none, digits_end, digits_stop, digits_past, digits_more}
use Rattle.term.proofs.scan.digits.Goals as goal

pub loop-i-init : goal.loop-i-init
loop-i-init c = (digits_none _ _ _ _, omega arith)

pub returns-then-not-is_digit : goal.returns-then-not-is_digit
returns-then-not-is_digit c =
    digits_stop _ _ _ _ _ _ c.loop-i.invariant.0 c.loop-i-test.true
    (sym (c.is_digit.ensures.compared c.args.source.now.lent) ∙ c.if-not-is_digit.true)

pub digit_value-d-requires : goal.digit_value-d-requires
digit_value-d-requires c = sym (c.is_digit.ensures.compared c.args.source.now.lent) ∙ c.if-not-is_digit.false

pub returns-then-v-most : goal.returns-then-v-most
returns-then-v-most c =
    digits_past _ _ _ _ _ _ c.loop-i.invariant.0 c.loop-i-test.true _
    (let h-digit : digit? (byte_at c.args.source.now.text.now c.loop-i.i) ≡ true = sym (c.is_digit.ensures.compared c.args.source.now.lent) ∙ c.if-not-is_digit.false in h-digit) c.digit_value-d.ensures.0
    (let h = tenth_past _ _ _ c.if-v-most.true in omega arith)

pub overflow_mul-v : goal.overflow_mul-v
overflow_mul-v c = let h = tenth_fits _ _ _ (omega arith) c.if-v-most.false in omega (arith, h)

pub overflow_add-v : goal.overflow_add-v
overflow_add-v c = let h = tenth_fits _ _ _ (omega arith) c.if-v-most.false in omega (arith, h)

pub loop-i-preserved : goal.loop-i-preserved
loop-i-preserved c = (
  digits_more _ _ _ _ _ _ c.loop-i.invariant.0 c.loop-i-test.true _
      (let h-digit : digit? (byte_at c.args.source.now.text.now c.loop-i.i) ≡ true = sym (c.is_digit.ensures.compared c.args.source.now.lent) ∙ c.if-not-is_digit.false in h-digit) c.digit_value-d.ensures.0
      (let h = tenth_fits _ _ _ (omega arith) c.if-v-most.false in omega (arith, h)),
  omega arith,
)

pub returns : goal.returns
returns c =
    let end : c.max.result ≡ c.loop-i.i = omega arith in
    ap (λ (k : ℕ). got c.loop-i.v k) end ∙ digits_end _ _ _ _ _ _ c.loop-i.invariant.0 c.loop-i-test.false
