-- `emptiness::marking::ready` meets its contract: every child is asked. Assumes nothing.
use lib.ListN.{length}
use borrow.Author.Tests.{tests}
use Rattle.std.proofs.Common.{rules}
use Rattle.model.specs.Written.{rule_at}
use Rattle.model.proofs.Ranges.{all_in_range}
use Rattle.automaton.specs.Stored.{decode}
use Rattle.emptiness.proofs.Marks.{width_is, read_marked, ready_all}
use Rattle.emptiness.proofs.marking.ready.Goals as goal

pub returns : goal.returns
returns c =
    ready_all _ c.args.set.sound c.args.marks.now c.args.i c.requires c.rule-r.result c.rule-r.ensures _
    (all_in_range (read_marked c.args.set.bytes.now c.args.set.sound c.args.marks.now c.args.i c.requires c.rule-r.result c.rule-r.ensures) (length (rule_at (decode c.args.set.bytes.now) c.args.i).children) _ _ _
    (width_is _ c.args.set.sound c.args.i _ _ c.requires c.rule-r.ensures.symbol c.arity.ensures) c.all.ensures.ran (λ x b q k. search (rules, tests)))
