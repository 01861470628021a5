-- `boolean::keys::shifted_keys` meets its contract: the loop has put the keys of the rules before its index. Assumes nothing.
use mathlib.Core.Path.{◌≡◌}
use mathlib.Core.List.{map}
use lib.ListN.{length}
use Rattle.model.specs.Boolean.{shift_rule}
use Rattle.automaton.specs.Stored.{decode}
use Rattle.boolean.specs.Key.{packed}
use Rattle.boolean.proofs.Laying.{Filling}
use Rattle.boolean.proofs.keys.shifted_keys.Given as goal

abbrev pub invariant-loop-i : goal.invariant-loop-i
invariant-loop-i l = (l.count ≡ length (decode l.set).rules) × Filling (map packed (map (shift_rule l.n l.t) (decode l.set).rules)) l.initial.keys l.keys 0 l.i
