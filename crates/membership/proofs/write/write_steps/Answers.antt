use Prim.Native.Nat.{◌≤◌}
use native.Mathlib.Omega.{arith}
use Rattle.membership.proofs.Writing.{writing_skip, writing_more, writes}
use Rattle.membership.proofs.write.write_steps.Goals as goal
use Rattle.membership.proofs.write.write_steps.Goals.{then-is_reached, else-is_reached}

pub loop-j-init : goal.loop-j-init
loop-j-init c = search writes

pub overflow_add-s : goal.overflow_add-s
overflow_add-s c = search writes

pub loop-j-preserved : goal.loop-j-preserved
loop-j-preserved c =
    let l : c.loop-j.j ≤ c.args.root = omega (arith, c.loop-j-test.true) in
    elim c.if-is_reached.branch [
      | then-is_reached w ↦ rw (w.work-is, w.run-is, w.s-is) (writing_more c.args.work.now c.args.run.now c.args.root c.loop-j.work c.loop-j.run c.loop-j.s c.loop-j.j c.loop-j.invariant c.requires.reached l (omega (arith, c.requires.bounds)) (omega (arith, c.requires.bounds)) c.is_reached.result c.is_reached.ensures w.if-is_reached.true w.write_step.new.work w.write_step.new.run w.write_step.ensures.0 w.write_step.ensures.1)
      | else-is_reached w ↦ rw (w.work-is, w.run-is, w.s-is) (writing_skip c.args.work.now c.args.run.now c.args.root c.loop-j.work c.loop-j.run c.loop-j.s c.loop-j.j c.loop-j.invariant c.is_reached.result l c.is_reached.ensures w.if-is_reached.false)
    ]
