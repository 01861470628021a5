-- `automaton::copy::put_states` meets its contract: the loop has put the states before its index. Assumes nothing.
use mathlib.Core.List.{map}
use mathlib.Core.Path.{◌≡◌}
use lib.ListN.{length}
use Rattle.automaton.specs.Stored.{decode}
use Rattle.automaton.proofs.Laying.{Parts}
use Rattle.model.specs.Boolean.{shift_state}
use Rattle.automaton.proofs.Encoded.{encode_of}
use Rattle.automaton.proofs.copy.put_states.Given as goal

abbrev pub invariant-loop-q : goal.invariant-loop-q
invariant-loop-q l = (l.n ≡ length (map (shift_state l.t) (decode l.set).states)) × Parts (encode_of l.form) (map (shift_state l.t) (decode l.set).states) l.initial.out l.out l.at l.end l.q
