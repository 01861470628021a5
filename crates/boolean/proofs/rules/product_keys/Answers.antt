-- `boolean::rules::product_keys` meets its contract: the keys of the pairs, sorted. Assumes nothing.
use Rattle.boolean.proofs.Keying.{product_keyed}
use Rattle.boolean.proofs.Sorting.{sorted_ordered}
use Rattle.boolean.proofs.rules.product_keys.Goals as goal

pub returns : goal.returns
returns c = product_keyed _ _ c.requires.0 _ _ _ c.pair_keys-n.ensures _ (sorted_ordered _ _ c.sort_unstable.ensures.permutation c.sort_unstable.ensures.sorted)
