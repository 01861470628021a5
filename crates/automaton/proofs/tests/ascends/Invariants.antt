-- `automaton::tests::ascends` meets its contract: the rules agree at every place before the loop's index. Assumes nothing.
use Prim.Native.Nat.{◌+◌}
use Rattle.model.specs.Limits.{max_children}
use Rattle.automaton.specs.Check.{key_word}
use Rattle.automaton.proofs.Loops.{Level}
use Rattle.automaton.proofs.tests.ascends.Given as goal

abbrev pub invariant-loop-k : goal.invariant-loop-k
invariant-loop-k l = Level (key_word l.rules.set.now l.i) (key_word l.rules.set.now (l.i + 1)) (max_children + 2) 6 l.k
