-- `boolean::same_arity` meets its contract. Assumes nothing.
use mathlib.Core.Path.{ap, ◌∙◌}
use Prim.Native.Nat.{ℕ}
use lib.Dec.{eqb}
use Rattle.boolean.proofs.same_arity.Goals as goal

pub returns : goal.returns
returns c = ap (λ (z : ℕ). eqb z c.arity-2.result) c.arity.ensures ∙ ap (eqb _) c.arity-2.ensures
