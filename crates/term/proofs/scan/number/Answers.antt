-- Each way through the definition. Assumes nothing.
use Prim.Native.Nat.{◌<◌}
use mathlib.Core.Path.{◌≡◌, sym, ap, ◌∙◌}
use mathlib.Core.Bool.{true}
use lib.ListN.{length}
use native.Mathlib.Omega.{arith}
use Rattle.names.specs.Names.{digit?}
use Rattle.term.proofs.Bytes.{digit_inside}
use Rattle.term.proofs.Scalars.{number_none, number_digits, number_more, number_zero}
use Rattle.term.proofs.scan.number.Goals as goal

pub returns-then-not-is_digit : goal.returns-then-not-is_digit
returns-then-not-is_digit c = number_none _ _ _ _ c.byte_at-b.ensures (sym (c.is_digit.ensures.compared c.args.source.now.lent) ∙ c.if-not-is_digit.true)

pub overflow_add-at : goal.overflow_add-at
overflow_add-at c = omega (arith, (let h-inside : c.args.at < length c.args.source.now.text.now = digit_inside c.args.source.now.text.now c.args.at (ap digit? (sym c.byte_at-b.ensures) ∙ (let h-digit : digit? c.byte_at-b.result ≡ true = sym (c.is_digit.ensures.compared c.args.source.now.lent) ∙ c.if-not-is_digit.false in h-digit)) in h-inside))

pub digit_value-requires : goal.digit_value-requires
digit_value-requires c = (let h-digit : digit? c.byte_at-b.result ≡ true = sym (c.is_digit.ensures.compared c.args.source.now.lent) ∙ c.if-not-is_digit.false in h-digit)

pub returns-then-b-ne48 : goal.returns-then-b-ne48
returns-then-b-ne48 c =
    c.digits.ensures
    ∙ number_digits _ _ _ _ c.byte_at-b.ensures (let h-digit : digit? c.byte_at-b.result ≡ true = sym (c.is_digit.ensures.compared c.args.source.now.lent) ∙ c.if-not-is_digit.false in h-digit) c.if-b-ne48.true _ c.digit_value.ensures.0

pub overflow_add-at-2 : goal.overflow_add-at-2
overflow_add-at-2 c = omega (arith, (let h-inside : c.args.at < length c.args.source.now.text.now = digit_inside c.args.source.now.text.now c.args.at (ap digit? (sym c.byte_at-b.ensures) ∙ (let h-digit : digit? c.byte_at-b.result ≡ true = sym (c.is_digit.ensures.compared c.args.source.now.lent) ∙ c.if-not-is_digit.false in h-digit)) in h-inside))

pub overflow_add-result : goal.overflow_add-result
overflow_add-result c = omega (arith, (let h-inside : c.args.at < length c.args.source.now.text.now = digit_inside c.args.source.now.text.now c.args.at (ap digit? (sym c.byte_at-b.ensures) ∙ (let h-digit : digit? c.byte_at-b.result ≡ true = sym (c.is_digit.ensures.compared c.args.source.now.lent) ∙ c.if-not-is_digit.false in h-digit)) in h-inside))

pub returns-then-is_digit : goal.returns-then-is_digit
returns-then-is_digit c =
    number_more _ _ _ _ c.byte_at-b.ensures (let h-digit : digit? c.byte_at-b.result ≡ true = sym (c.is_digit.ensures.compared c.args.source.now.lent) ∙ c.if-not-is_digit.false in h-digit) c.if-b-ne48.false
    (ap digit? (sym c.byte_at.ensures) ∙ sym (c.is_digit-2.ensures.compared c.args.source.now.lent) ∙ c.if-is_digit.true)

pub overflow_add-result-2 : goal.overflow_add-result-2
overflow_add-result-2 c = omega (arith, (let h-inside : c.args.at < length c.args.source.now.text.now = digit_inside c.args.source.now.text.now c.args.at (ap digit? (sym c.byte_at-b.ensures) ∙ (let h-digit : digit? c.byte_at-b.result ≡ true = sym (c.is_digit.ensures.compared c.args.source.now.lent) ∙ c.if-not-is_digit.false in h-digit)) in h-inside))

pub returns : goal.returns
returns c =
    number_zero _ _ _ _ c.byte_at-b.ensures (let h-digit : digit? c.byte_at-b.result ≡ true = sym (c.is_digit.ensures.compared c.args.source.now.lent) ∙ c.if-not-is_digit.false in h-digit) c.if-b-ne48.false
    (ap digit? (sym c.byte_at.ensures) ∙ sym (c.is_digit-2.ensures.compared c.args.source.now.lent) ∙ c.if-is_digit.false)
