-- The length of the input, then the answer of the emptiness test decide. Assumes nothing.
use mathlib.Core.Path.{sym, ap, ◌∙◌}
use lib.ListN.{replicate}
use lib.Seq.{length-take-le}
use Rattle.std.specs.Prelude.{Ok}
use Rattle.console.proofs.Answers.{zeros_long, sample_fits, sample_printed}
use Rattle.console.proofs.Outputs.{sample_beyond, sample_within}
use Rattle.console.proofs.sample.Goals as goal

pub returns-then-input-gt-MAX_INPUT : goal.returns-then-input-gt-MAX_INPUT
returns-then-input-gt-MAX_INPUT c = let r = sample_beyond _ _ _ _ c.if-input-gt-MAX_INPUT.true c.put_refused.ensures in record { printed = r.0; fits = r.1 }

pub slice_bounds-rows-end : goal.slice_bounds-rows-end
slice_bounds-rows-end c = rw c.from-cells.ensures (sample_fits _ (replicate 2560 0) _ _ c.in-Ok-Some.sample c.witness.ensures.answer c.witness.ensures.space (c.in-Ok-Some.is ∙ ap Ok c.in-Ok-Some.field-0-is))

pub slice_bounds-live-end : goal.slice_bounds-live-end
slice_bounds-live-end c = sym (length-take-le _ _ (rw c.from-cells.ensures (sample_fits _ (replicate 2560 0) _ _ c.in-Ok-Some.sample c.witness.ensures.answer c.witness.ensures.space (c.in-Ok-Some.is ∙ ap Ok c.in-Ok-Some.field-0-is))))

pub returns-in-Ok-None : goal.returns-in-Ok-None
returns-in-Ok-None c =
    let r = sample_within _ _ _ _ c.if-input-gt-MAX_INPUT.false
    (sample_printed _ (replicate 2560 0) _ _ _ _ _ _ (zeros_long 2560) c.witness.ensures.answer c.witness.ensures.space (c.in-Ok-None.is ∙ ap Ok c.in-Ok-None.field-0-is) c.put_answer.ensures) in record { printed = r.0; fits = r.1 }

pub returns-in-Ok-Some : goal.returns-in-Ok-Some
returns-in-Ok-Some c =
    let r = sample_within _ _ _ _ c.if-input-gt-MAX_INPUT.false
    (sample_printed _ (replicate 2560 0) _ _ _ _ _ _ (zeros_long 2560) c.witness.ensures.answer c.witness.ensures.space (c.in-Ok-Some.is ∙ ap Ok c.in-Ok-Some.field-0-is) (rw c.from-cells.ensures at c.live.ensures)) in record { printed = r.0; fits = r.1 }

pub returns-in-Err : goal.returns-in-Err
returns-in-Err c =
    let r = sample_within _ _ _ _ c.if-input-gt-MAX_INPUT.false
    (sample_printed _ (replicate 2560 0) _ _ _ _ _ _ (zeros_long 2560) c.witness.ensures.answer c.witness.ensures.space c.in-Err.is c.put_refused-in-Err.ensures) in record { printed = r.0; fits = r.1 }
