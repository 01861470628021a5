-- `emptiness::marking::Round::try_rule` meets its contract: each way out is one law of trying. Assumes nothing.
use borrow.Author.Rules.{rules}
use Rattle.emptiness.proofs.Marks.{marking, rule_small}
use Rattle.emptiness.proofs.Tries.{try_marked, try_later, try_unready, try_lower, try_new, try_full}
use Rattle.emptiness.proofs.marking.Round.try_rule.Goals as goal

pub returns-then-is_marked : goal.returns-then-is_marked
returns-then-is_marked c = search (try_marked, rules)

pub overflow_add-mark : goal.overflow_add-mark
overflow_add-mark c = search (rule_small, rules)

pub returns-then-not-lower : goal.returns-then-not-lower
returns-then-not-lower c = try_later _ _ _ _ c.rule_target-q.ensures _ _ _ _ c.mark_of-old.ensures c.if-not-lower.true

pub returns-then-not-ready : goal.returns-then-not-ready
returns-then-not-ready c = try_unready _ _ _ _ c.rule_target-q.ensures _ _ _ _ c.ready.ensures c.if-not-ready.true

pub bounds-self-from : goal.bounds-self-from
bounds-self-from c = search marking

pub returns-then-old-ne0 : goal.returns-then-old-ne0
returns-then-old-ne0 c =
    try_lower _ c.args.set.sound _ _ _ c.requires c.rule_target-q.ensures _ _ _ _
    c.mark_of-old.ensures c.if-not-lower.false _
    c.is_marked.ensures c.if-is_marked.false _
    c.ready.ensures c.if-not-ready.false _ c.from.ensures
    c.if-old-ne0.true

pub returns-then-end-ge-STATES : goal.returns-then-end-ge-STATES
returns-then-end-ge-STATES c =
    try_full _ c.args.set.sound _ _ _ c.requires c.rule_target-q.ensures _ _ _ _
    c.mark_of-old.ensures c.if-not-lower.false _
    c.is_marked.ensures c.if-is_marked.false _
    c.ready.ensures c.if-not-ready.false _ c.from.ensures
    _ c.if-old-ne0.false c.from-end.ensures c.if-end-ge-STATES.true

pub returns : goal.returns
returns c =
    try_new _ c.args.set.sound _ _ _ c.requires c.rule_target-q.ensures _ _ _ _
    c.mark_of-old.ensures c.if-not-lower.false _
    c.is_marked.ensures c.if-is_marked.false _
    c.ready.ensures c.if-not-ready.false _ c.from.ensures
    _ c.if-old-ne0.false c.from-end.ensures c.if-end-ge-STATES.false
