-- Each number is held against what the ones before it leave. Assumes nothing.
use native.Mathlib.Omega.{arith}
use Rattle.spelling.proofs.Summing.{fits, over}
use Rattle.spelling.proofs.lengths.sum.Goals as goal
use Rattle.spelling.proofs.lengths.sum.Goals.{then-a-space-via-then-a-space, then-a-space-via-else-a-space+then-b-space, then-a-space-via-else-a-space+else-b-space+then-c-space}

pub returns-then-a-space : goal.returns-then-a-space
returns-then-a-space c = elim c.then-a-space.branch [
  | then-a-space-via-then-a-space w ↦ over _ _ (omega arith)
  | then-a-space-via-else-a-space+then-b-space w ↦ over _ _ (omega arith)
  | then-a-space-via-else-a-space+else-b-space+then-c-space w ↦ over _ _ (omega arith)
]

pub returns : goal.returns
returns c = fits _ _ (omega arith)
