-- `automaton::views::Rules::word` meets its contract: a rule's numbers stand from its place on. Assumes nothing.
use Rattle.automaton.specs.Stored.{rule_word}
use Rattle.automaton.proofs.views.Rules.word.Goals as goal

pub returns : goal.returns
unfolding rule_word
returns c = cc (c.args.self.in_form, c.args.self.at_first)
