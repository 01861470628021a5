-- `automaton::tests::rules` meets its contract: every rule is asked. Assumes nothing.
use Rattle.std.proofs.Common.{rules}
use borrow.Author.Tests.{tests}
use Rattle.model.proofs.Ranges.{all_in_range}
use Rattle.automaton.specs.Stored.{rule_count}
use Rattle.automaton.specs.Check.{rule_ok}
use Rattle.automaton.proofs.tests.rules.Goals as goal

pub returns : goal.returns
returns c = all_in_range (rule_ok c.args.set.now) (rule_count c.args.set.now) _ _ _ c.header_word.ensures c.all.ensures.ran (λ x b q k. search (rules, tests))
