-- `automaton::tests::states` meets its contract: every state is asked. Assumes nothing.
use Rattle.std.proofs.Common.{rules}
use borrow.Author.Tests.{tests}
use Rattle.model.proofs.Ranges.{all_in_range}
use Rattle.automaton.specs.Stored.{state_count}
use Rattle.automaton.specs.Check.{state_ok}
use Rattle.automaton.proofs.tests.states.Goals as goal

pub returns : goal.returns
returns c = all_in_range (state_ok c.args.set.now) (state_count c.args.set.now) _ _ _ c.header_word-2.ensures c.all.ensures.ran (λ x b q k. search (rules, tests))
