use Rattle.membership.proofs.Marks.{reaching_more, reaching_skip}
use Rattle.membership.proofs.trace.reach_children.Goals as goal
use Rattle.membership.proofs.trace.reach_children.Goals.{then-x-j, else-x-j}

pub loop-p-preserved : goal.loop-p-preserved
loop-p-preserved c =
    elim c.if-x-j.branch [
      | then-x-j w ↦ rw w.work-is (reaching_more c.args.work.now c.args.j c.loop-p.work c.loop-p.p c.child-x.result c.loop-p.invariant c.loop-p-test.true c.child-x.ensures.0 w.reach.new.work w.if-x-j.true w.reach.ensures w.reach.auto.work)
      | else-x-j w ↦ rw w.work-is (reaching_skip c.args.work.now c.args.j c.loop-p.work c.loop-p.p c.child-x.result c.loop-p.invariant c.loop-p-test.true c.child-x.ensures.0 w.if-x-j.false)
    ]
