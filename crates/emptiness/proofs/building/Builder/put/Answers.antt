-- `emptiness::building::Builder::put` meets its contract: each answer of the builder is one case of the definition. Assumes nothing.
use native.Mathlib.Omega.{arith}
use Rattle.emptiness.proofs.Puts.{added_few}
use Rattle.emptiness.proofs.building.Builder.put.Goals as goal

pub overflow_add-self : goal.overflow_add-self
overflow_add-self c = let l = added_few _ _ _ _ _ _ _ _ _ c.find_or_add.ensures.did c.in-Added.is in omega arith
