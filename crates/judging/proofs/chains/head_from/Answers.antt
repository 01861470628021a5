-- `judging::chains::head_from` meets its contract. Assumes nothing.
use lib.ListN.{get_or}
use Rattle.judging.specs.Chains.{class_in}
use Rattle.judging.proofs.States.{head_before, head_after, head_other, head_is}
use Rattle.judging.proofs.chains.head_from.Goals as goal

pub returns-then-h-low : goal.returns-then-h-low
returns-then-h-low c = head_before (class_in c.args.work.now) c.args.c c.args.low c.args.high c.from-h.result (get_or c.args.chains.now.heads c.args.at 0) c.requires.head_of c.from-h.ensures c.requires.bounds.1 c.if-h-low.true

pub returns-then-h-high : goal.returns-then-h-high
returns-then-h-high c = head_after (class_in c.args.work.now) c.args.c c.args.low c.args.high c.from-h.result (get_or c.args.chains.now.heads c.args.at 0) c.requires.head_of c.from-h.ensures c.requires.bounds.1 c.if-h-high.true

pub returns-then-class_at-c : goal.returns-then-class_at-c
returns-then-class_at-c c = head_other (class_in c.args.work.now) c.args.c c.args.low c.args.high c.from-h.result (get_or c.args.chains.now.heads c.args.at 0) c.requires.head_of c.from-h.ensures c.class_at.result c.requires.bounds.1 c.if-h-high.false c.class_at.ensures.0 c.if-class_at-c.true

pub returns : goal.returns
returns c = head_is (class_in c.args.work.now) c.args.c c.args.low c.args.high c.from-h.result (get_or c.args.chains.now.heads c.args.at 0) c.requires.head_of c.from-h.ensures c.class_at.result c.if-h-low.false c.if-h-high.false c.class_at.ensures.0 c.if-class_at-c.false
