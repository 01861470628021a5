-- `boolean::write::put_rules` meets its contract: the loop has put the rules of the keys before its index. Assumes nothing.
use Rattle.automaton.specs.Stored.{decode}
use Rattle.boolean.specs.Key.{encode_key}
use Rattle.automaton.proofs.Laying.{Parts}
use Rattle.boolean.proofs.write.put_rules.Given as goal

abbrev pub invariant-loop-x : goal.invariant-loop-x
invariant-loop-x l = Parts (encode_key l.form (decode l.set).arities) l.keys l.initial.out l.out l.at l.end l.x-index
