-- `boolean::pairs::count` meets its contract: the loop has counted the pairs of the rules before its index. Assumes nothing.
use mathlib.Core.Path.{◌≡◌}
use lib.ListN.{length}
use Rattle.automaton.specs.Stored.{decode}
use Rattle.boolean.proofs.Windows.{Counted}
use Rattle.boolean.proofs.pairs.count.Given as goal

abbrev pub invariant-loop-i : goal.invariant-loop-i
invariant-loop-i l = (l.n ≡ length (decode l.sets.first.now).rules) × Counted (decode l.sets.first.now) (decode l.sets.second.now) l.total l.i
