-- `automaton::tests::rule` meets its contract: each comparison is the definition's. Assumes nothing.
use Rattle.automaton.specs.Check.{rule_ok}
use Rattle.automaton.proofs.tests.rule.Goals as goal

pub returns : goal.returns
unfolding rule_ok
returns c = cc (c.args.f.framed.0.symbol_count_is, c.args.f.framed.0.state_count_is, c.args.f.framed.1)
