-- `membership::table::first_rules` meets its contract. Assumes nothing.
use Rattle.automaton.specs.Stored.{decode}
use Rattle.membership.proofs.FirstRules.{Ruling}
use Rattle.membership.proofs.table.first_rules.Given as goal

abbrev pub invariant-loop-f : goal.invariant-loop-f
invariant-loop-f l = Ruling (decode l.set) l.out l.f
