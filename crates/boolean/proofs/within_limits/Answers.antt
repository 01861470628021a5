-- `boolean::within_limits` meets its contract. Assumes nothing.
use mathlib.Core.Path.{ap, ◌∙◌}
use mathlib.Core.Bool.{◌&&◌}
use Prim.Native.Nat.{ℕ}
use lib.Dec.{leb}
use Rattle.model.specs.Limits.{max_states, max_tags}
use Rattle.boolean.specs.Combine.{within_limits}
use Rattle.boolean.proofs.within_limits.Goals as goal

pub returns : goal.returns
unfolding within_limits
returns c =
    ap (λ (z : ℕ). leb c.args.size.states z && leb c.args.size.tags c.from-2.result && leb c.args.size.rules c.from-3.result) c.from.ensures
    ∙ ap (λ (z : ℕ). leb c.args.size.states max_states && leb c.args.size.tags z && leb c.args.size.rules c.from-3.result) c.from-2.ensures
    ∙ ap (λ (z : ℕ). leb c.args.size.states max_states && leb c.args.size.tags max_tags && leb c.args.size.rules z) c.from-3.ensures
