-- `automaton::copy::put_rules` meets its contract: the loop has put the rules before its index. Assumes nothing.
use mathlib.Core.Path.{◌≡◌}
use lib.ListN.{length}
use Rattle.automaton.specs.Stored.{decode}
use Rattle.automaton.proofs.Laying.{Parts}
use Rattle.automaton.specs.Encode.{encode_rule}
use Rattle.automaton.proofs.copy.put_rules.Given as goal

abbrev pub invariant-loop-i : goal.invariant-loop-i
invariant-loop-i l = (l.n ≡ length (decode l.set).rules) × Parts (encode_rule l.form) (decode l.set).rules l.initial.out l.out l.at l.end l.i
