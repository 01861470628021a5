-- The size of a union: the numbers of both, added. Assumes nothing.
use native.Mathlib.Omega.{arith}
use Rattle.model.proofs.SoundUnion.{union_states, union_rules_lem}
use Rattle.automaton.specs.Stored.{decode}
use Rattle.boolean.proofs.combination.UnionCombination.size.Goals as goal

pub returns : goal.returns
returns c =
    let A = decode c.args.sets.first.now in
    let B = decode c.args.sets.second.now in
    record {
      states = omega (arith, c.header-a.ensures.states, c.header-b.ensures.states, union_states A B);
      tags = omega (arith, c.header-a.ensures.tags, c.header-b.ensures.tags);
      rules = omega (arith, c.header-a.ensures.rules, c.header-b.ensures.rules, union_rules_lem A B);
    }
