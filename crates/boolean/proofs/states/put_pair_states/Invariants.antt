-- `boolean::states::put_pair_states` meets its contract: the loop has put the states before its index. Assumes nothing.
use mathlib.Core.Path.{◌≡◌}
use lib.ListN.{length}
use Rattle.model.specs.Automaton.{State}
use Rattle.model.specs.Boolean.{product}
use Rattle.automaton.specs.Stored.{decode}
use Rattle.automaton.specs.Encode.{encode_state}
use Rattle.automaton.proofs.Laying.{Parts}
use Rattle.boolean.proofs.states.put_pair_states.Given as goal

abbrev pub invariant-loop-i : goal.invariant-loop-i
invariant-loop-i l = (l.n ≡ length ((product (decode l.sets.first.now) (decode l.sets.second.now))).states) × Parts (λ (z : State). encode_state l.form z.final z.mask) (product (decode l.sets.first.now) (decode l.sets.second.now)).states l.initial.out l.out l.at l.end l.i
