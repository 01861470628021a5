-- `automaton::tests::symbols` meets its contract: every symbol is asked. Assumes nothing.
use Rattle.std.proofs.Common.{rules}
use borrow.Author.Tests.{tests}
use Rattle.model.proofs.Ranges.{all_in_range}
use Rattle.automaton.specs.Stored.{symbol_count}
use Rattle.automaton.specs.Check.{symbol_ok}
use Rattle.automaton.proofs.tests.symbols.Goals as goal

pub returns : goal.returns
returns c = all_in_range (symbol_ok c.args.set.now) (symbol_count c.args.set.now) _ _ _ c.header_word.ensures c.all.ensures.ran (λ x b q k. search (rules, tests))
