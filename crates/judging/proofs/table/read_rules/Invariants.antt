-- `judging::table::read_rules` meets its contract. Assumes nothing.
use Rattle.automaton.specs.Stored.{decode}
use Rattle.judging.proofs.Rules.{Reading}
use Rattle.judging.proofs.table.read_rules.Given as goal

abbrev pub invariant-loop-r : goal.invariant-loop-r
invariant-loop-r l = Reading (decode l.set) l.n l.rules l.r
