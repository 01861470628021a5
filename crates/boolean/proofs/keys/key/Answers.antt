use mathlib.Core.Path.{refl, ap, ◌∙◌}
use native.Mathlib.Omega.{arith}
use Rattle.boolean.specs.Key.{pushed}
use Rattle.boolean.proofs.Packing.{few_digits, pushing_none, pushing_more, pushing_last, pushing_all}
use Rattle.boolean.proofs.keys.key.Goals as goal

pub loop-p-init : goal.loop-p-init
loop-p-init c = pushing_none _ _ _ (c.push-x.ensures ∙ ap (pushed 0) c.from.ensures)

pub push-x-requires-in-loop-p : goal.push-x-requires-in-loop-p
push-x-requires-in-loop-p c = few_digits _ _ 7 c.loop-p.invariant.low (omega arith)

pub loop-p-preserved : goal.loop-p-preserved
loop-p-preserved c = pushing_more _ _ _ _ c.loop-p.invariant _ _ (omega arith) refl c.push-x-in-loop-p.ensures

pub push-requires : goal.push-requires
push-requires c = few_digits _ _ 7 c.loop-p.invariant.low (omega arith)

pub with_mask-requires : goal.with_mask-requires
with_mask-requires c = pushing_last _ _ _ _ c.loop-p.invariant _ _ c.push.ensures

pub returns : goal.returns
returns c = pushing_all _ _ _ _ c.loop-p.invariant _ _ _ _ (omega arith) c.push.ensures c.with_mask.ensures
