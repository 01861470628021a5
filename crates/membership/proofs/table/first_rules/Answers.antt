use Rattle.automaton.specs.Stored.{decode}
use Rattle.automaton.proofs.Known.{known_first}
use Rattle.membership.proofs.FirstRules.{ruling_more, ruling_all}
use Rattle.membership.proofs.table.first_rules.Goals as goal

pub loop-f-preserved : goal.loop-f-preserved
loop-f-preserved c = ruling_more (decode c.args.set.now) c.loop-f.out c.loop-f.f c.rules_from.result c.narrow.result c.loop-f.invariant c.loop-f-test.true c.narrow.ensures (known_first c.args.set.now c.narrow.result c.rules_from.result c.requires c.rules_from.ensures)

pub returns : goal.returns
returns c = ruling_all (decode c.args.set.now) c.loop-f.out c.loop-f.f c.loop-f.invariant c.loop-f-test.false
