-- The size of a product: the states of both multiplied, the tags of both, and the pairs of rules. Assumes nothing.
use mathlib.Core.Path.{ap, sym, ◌∙◌}
use Prim.Native.Nat.{ℕ, ◌*◌}
use native.Mathlib.Omega.{arith}
use lib.ListN.{length}
use Rattle.model.proofs.SoundProduct.{product_states}
use Rattle.automaton.specs.Stored.{decode}
use Rattle.boolean.proofs.combination.ProductCombination.size.Goals as goal

pub returns : goal.returns
returns c =
    let A = decode c.args.sets.first.now in
    let B = decode c.args.sets.second.now in
    record {
      states = ap (λ (z : ℕ). z * c.from-2.result) (c.from.ensures ∙ c.header-a.ensures.states) ∙ ap (length A.states *◌) (c.from-2.ensures ∙ c.header-b.ensures.states) ∙ sym (product_states A B);
      tags = omega (arith, c.header-a.ensures.tags, c.header-b.ensures.tags);
      rules = c.count.ensures;
    }
