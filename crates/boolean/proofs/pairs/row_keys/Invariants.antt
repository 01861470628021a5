-- `boolean::pairs::row_keys` meets its contract: the loop has put the keys of the window's rules before its index. Assumes nothing.
use mathlib.Core.Path.{◌≡◌}
use mathlib.Core.List.{map}
use lib.ListN.{length}
use Rattle.model.specs.Written.{rule_at}
use Rattle.automaton.specs.Stored.{decode}
use Rattle.boolean.specs.Key.{packed}
use Rattle.boolean.specs.Ready.{row}
use Rattle.boolean.proofs.Laying.{Filling}
use Rattle.boolean.proofs.pairs.row_keys.Given as goal

abbrev pub invariant-loop-k : goal.invariant-loop-k
invariant-loop-k l = (l.n ≡ length (map packed (row (decode l.sets.first.now).tags (decode l.sets.second.now) (rule_at (decode l.sets.first.now) l.i)))) × Filling (map packed (row (decode l.sets.first.now).tags (decode l.sets.second.now) (rule_at (decode l.sets.first.now) l.i))) l.initial.keys l.keys l.at l.k
