-- `emptiness::marking::Round::first` meets its contract: the rules before the loop's index were tried. Assumes nothing.
use Prim.Native.Nat.{◌≤◌}
use lib.ListN.{replicate}
use Rattle.model.specs.Limits.{max_states}
use Rattle.automaton.specs.Stored.{decode}
use Rattle.emptiness.specs.Marking.{early?, Tried}
use Rattle.emptiness.proofs.marking.Round.first.Given as goal

abbrev pub invariant-loop-i : goal.invariant-loop-i
invariant-loop-i l = (l.i ≤ l.set.rules) × Tried (decode l.set.bytes.now) (replicate max_states 0) (early? l.i) l.round.marks l.round.added l.round.count
