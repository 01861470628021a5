-- At the loop's head the digits so far are summed, and there is room for one more. Assumes nothing.
use mathlib.Core.Path.{sym, ◌∙◌}
use native.Mathlib.Omega.{arith}
use Rattle.jsontext.specs.NumberAnswer.{Short}
use Rattle.jsontext.proofs.ShortRuns.{within_more, within_room, summed_more}
use Rattle.jsontext.proofs.digits.few_digits.Goals as goal

pub overflow_mul-value : goal.overflow_mul-value
overflow_mul-value c = omega (arith, (let h-room : Short c.loop-i.value 18 = let (n, s, h) = c.requires.fitting in within_room _ _ _ _ _ c.loop-i.invariant.0 (omega arith) n s h in h-room))

pub overflow_add-value : goal.overflow_add-value
overflow_add-value c = omega (arith, (let h-room : Short c.loop-i.value 18 = let (n, s, h) = c.requires.fitting in within_room _ _ _ _ _ c.loop-i.invariant.0 (omega arith) n s h in h-room), c.digit_value.ensures.few)

pub loop-i-preserved : goal.loop-i-preserved
loop-i-preserved c =
    let (w, s) = c.loop-i.invariant in (
      within_more _ _ _ _ _ w (omega arith) _ c.digit_value.ensures.few,
      λ l.
          let there = sym (c.is_digit.ensures.compared l) ∙ c.if-not-is_digit.false in
          summed_more _ _ _ _ _ w.forward (s l) (omega arith) there _ (c.digit_value.ensures.value there),
    )
