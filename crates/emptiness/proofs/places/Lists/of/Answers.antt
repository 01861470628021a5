use mathlib.Core.Path.{refl}
use native.Mathlib.Omega.{arith}
use borrow.Author.Rules.{rules}
use Rattle.emptiness.proofs.Links.{linked_none, few_places, place_small}
use Rattle.emptiness.proofs.places.Lists.of.Goals as goal

pub overflow_mul-p-end : goal.overflow_mul-p-end
overflow_mul-p-end c = search (few_places, rules)

pub loop-p-init : goal.loop-p-init
loop-p-init c = (omega arith, linked_none _)

pub link-requires : goal.link-requires
link-requires c = place_small _ _ _ _ c.args.set.sound c.args.set.all_rules refl c.loop-p-test.true

pub loop-p-preserved : goal.loop-p-preserved
loop-p-preserved c = (omega arith, c.link.ensures c.loop-p.invariant.1)
