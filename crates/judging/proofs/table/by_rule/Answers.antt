-- `judging::table::by_rule` meets its contract. Assumes nothing.
use native.Mathlib.Omega.{arith}
use Rattle.judging.proofs.Ruling.{rule_tried, rule_fresh, rule_made, alike_whole}
use Rattle.judging.proofs.table.by_rule.Goals as goal

pub search-requires : goal.search-requires
search-requires c = (c.requires.0, omega arith, rule_tried c.args.plan.now c.args.rules.now c.args.row.0 c.args.r c.ask-asked.result c.ask-asked.ensures c.own_memory-own.result c.args.work.now c.args.tried.now c.args.n c.requires.1 c.requires.2 c.requires.3, c.own_memory-own.ensures.1, c.kept-early.ensures.1, c.requires.4)

pub returns : goal.returns
returns c =
    record {
      grown = rule_made c.args.plan.now c.args.rules.now c.args.row.0 c.args.r c.ask-asked.result c.ask-asked.ensures c.own_memory-own.result c.kept-early.result c.target_tags.result c.target_tags.ensures c.own_memory-own.ensures.0 c.args.work.now c.search.new.work c.search.new.slots c.args.children.now c.args.n c.search.result c.kept-early.ensures.0 c.search.ensures.0;
      alike = (
        alike_whole c.args.plan.now c.args.children.now c.search.new.children c.search.ensures.1,
        rule_fresh c.args.plan.now c.args.rules.now c.args.row.0 c.args.r c.ask-asked.result c.ask-asked.ensures c.own_memory-own.result c.search.new.work c.search.new.tried c.search.result c.search.ensures.2,
      );
    }
