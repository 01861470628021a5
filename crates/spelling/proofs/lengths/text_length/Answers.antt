use mathlib.Core.Path.{refl, ◌∙◌}
use native.Mathlib.Omega.{arith}
use Rattle.spelling.proofs.Summing.{lengths_none, lengths_over, lengths_more, lengths_all}
use Rattle.spelling.proofs.Texts.{few_rows, some_rows, sound_scalar}
use Rattle.spelling.proofs.lengths.text_length.Goals as goal

pub loop-i-init : goal.loop-i-init
loop-i-init c = (c.count-n.ensures, lengths_none _ _ _ c.requires)

pub overflow_cast-i : goal.overflow_cast-i
overflow_cast-i c = omega (arith, c.loop-i-test.true, c.loop-i.invariant.0, few_rows _ c.requires)

pub row_length-requires : goal.row_length-requires
row_length-requires c = sound_scalar _ c.requires _ (omega (arith, c.loop-i-test.true, c.loop-i.invariant.0))

pub returns-in_err-lengths : goal.returns-in_err-lengths
returns-in_err-lengths c =
    c.from_residual.ensures
    ∙ lengths_over _ _ _ c.requires _ _ c.loop-i.invariant.1 (omega (arith, c.loop-i-test.true, c.loop-i.invariant.0)) _ c.row_length.ensures c.in_err-lengths.was

pub bounds-lengths-i : goal.bounds-lengths-i
bounds-lengths-i c = omega (arith, c.loop-i-test.true, c.loop-i.invariant.0, few_rows _ c.requires)

pub loop-i-preserved : goal.loop-i-preserved
loop-i-preserved c = (
  c.loop-i.invariant.0,
  lengths_more _ _ _ c.requires _ _ c.loop-i.invariant.1 (omega (arith, c.loop-i-test.true, c.loop-i.invariant.0)) _ c.row_length.ensures _ c.in_ok-lengths.was,
)

pub overflow_sub-result : goal.overflow_sub-result
overflow_sub-result c = omega (arith, c.loop-i.invariant.0, some_rows _ c.requires)

pub bounds-lengths-n : goal.bounds-lengths-n
bounds-lengths-n c = omega (arith, c.loop-i.invariant.0, few_rows _ c.requires, some_rows _ c.requires)

pub returns : goal.returns
returns c = lengths_all _ _ _ c.requires _ _ _ _ c.loop-i.invariant.1 c.loop-i.invariant.0 (omega (arith, c.loop-i-test.false)) refl
