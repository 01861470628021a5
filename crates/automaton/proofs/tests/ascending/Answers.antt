-- `automaton::tests::ascending` meets its contract: every rule but the last is asked. Assumes nothing.
use Rattle.std.proofs.Common.{rules}
use borrow.Author.Tests.{tests}
use Rattle.model.proofs.Ranges.{all_in_range}
use native.Mathlib.Omega.{arith}
use Prim.Native.Nat.{◌-◌}
use Rattle.automaton.specs.Stored.{rule_count}
use Rattle.automaton.specs.Check.{ascends_at}
use Rattle.automaton.proofs.tests.ascending.Goals as goal

pub returns : goal.returns
returns c = all_in_range (ascends_at c.args.set.now) (rule_count c.args.set.now - 1) _ _ _ (omega arith) c.all.ensures.ran (λ x b q k. search (rules, tests))
