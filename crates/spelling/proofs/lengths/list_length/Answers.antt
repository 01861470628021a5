use mathlib.Core.Path.{◌≡◌, ◌∙◌}
use mathlib.Core.List.{[]}
use Rattle.document.proofs.Places.{rest_in, rest_last}
use Rattle.spelling.proofs.Summing.{summed_end, summed_over, summed_more, rest_none, summing}
use Rattle.spelling.proofs.lengths.list_length.Goals as goal
use Rattle.spelling.proofs.lengths.list_length.Goals.{else-loop-k-test, then-loop-k-test+then-c}

pub loop-k-init : goal.loop-k-init
loop-k-init c = search summing

pub returns-in_err-n : goal.returns-in_err-n
returns-in_err-n c =
    c.from_residual.ensures
    ∙ summed_over _ _ _ _ _ _ _ c.loop-k.invariant c.place-c.ensures c.if-c.false _ _ _ c.length_at.ensures c.sum.ensures c.in_err-n.was

pub loop-k-preserved : goal.loop-k-preserved
loop-k-preserved c = summed_more _ _ _ _ _ _ _ c.loop-k.invariant c.place-c.ensures c.if-c.false _ _ _ c.length_at.ensures c.sum.ensures _ c.in_ok-n.was

pub returns : goal.returns
returns c =
    let none : rest_in c.args.rows.now c.args.i.0 c.loop-k.k ≡ [] = elim c.loop-k-test.branch [
      | else-loop-k-test w ↦ rest_last _ _ _ w.loop-k-test.false
      | then-loop-k-test+then-c w ↦ rest_none _ _ _ _ w.place-c.ensures w.if-c.true
    ] in
    summed_end _ _ _ _ _ _ c.loop-k.invariant none _ _ c.sum-2.ensures
