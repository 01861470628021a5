-- `boolean::pairs::pair_keys` meets its contract: the loop has put the keys of the pairs of the rules before its index. Assumes nothing.
use mathlib.Core.Path.{◌≡◌}
use mathlib.Core.List.{map}
use lib.ListN.{length}
use Rattle.automaton.specs.Stored.{decode}
use Rattle.boolean.specs.Key.{packed}
use Rattle.boolean.specs.Ready.{row}
use Rattle.automaton.proofs.Laying.{Parts}
use Rattle.boolean.proofs.pairs.pair_keys.Given as goal

abbrev pub invariant-loop-i : goal.invariant-loop-i
invariant-loop-i l = (l.n ≡ length (decode l.sets.first.now).rules) × Parts (λ r. map packed (row (decode l.sets.first.now).tags (decode l.sets.second.now) r)) (decode l.sets.first.now).rules l.initial.keys l.keys 0 l.at l.i
