-- `judging::table::read_rule` meets its contract. Assumes nothing.
use Rattle.automaton.specs.Stored.{decode}
use Rattle.judging.proofs.Rules.{read_one}
use Rattle.judging.proofs.table.read_rule.Goals as goal

pub returns : goal.returns
returns c = read_one (decode c.args.set.now) c.args.r _ c.rule-rule.ensures.target c.tags_of.ensures c.rule-rule.ensures.forget c.rule-rule.ensures.places
