-- `membership::decide` meets its contract: each answer by its law. Assumes nothing.
use Rattle.membership.proofs.Meaning.{set_passed, table_passed, too_short, too_many, spaces, says}
use Rattle.membership.proofs.decide.Goals as goal

-- 32
pub returns-then-count-room : goal.returns-then-count-room
returns-then-count-room c = too_short c.args.set.now c.args.rows.now c.args.work.now c.args.run.now c.requires c.room_of-room.result c.count.result c.room_of-room.ensures c.count.ensures c.if-count-room.true

pub annotate-requires : goal.annotate-requires
annotate-requires c = (set_passed c.args.set.now c.args.rows.now c.requires, table_passed c.args.set.now c.args.rows.now c.requires)

-- 31
pub returns-in_default : goal.returns-in_default
returns-in_default c = too_many c.args.set.now c.args.rows.now c.args.work.now c.args.run.now c.requires c.room_of-room.result c.count.result c.room_of-room.ensures c.count.ensures c.if-count-room.false c.annotate.new.work c.annotate.auto.work c.clear.new.work c.in_default.ensures c.clear.ensures

pub write_run-steps-requires : goal.write_run-steps-requires
write_run-steps-requires c = record { sound = (set_passed c.args.set.now c.args.rows.now c.requires, table_passed c.args.set.now c.args.rows.now c.requires); few = spaces c.args.set.now c.args.rows.now c.args.work.now c.args.run.now c.requires c.room_of-room.result c.count.result c.room_of-room.ensures c.count.ensures c.if-count-room.false c.annotate.new.work c.annotate.auto.work c.in-Some.n c.in-Some.ensures; known = (c.in-Some.ensures.held, c.in-Some.ensures.sourced) }

-- yes or no
pub returns : goal.returns
returns c = says c.args.set.now c.args.rows.now c.args.work.now c.args.run.now c.requires c.room_of-room.result c.count.result c.room_of-room.ensures c.count.ensures c.if-count-room.false c.annotate.new.work c.annotate.auto.work c.in-Some.n c.in-Some.ensures c.write_run-steps.new.work c.clear-2.new.work c.write_run-steps.new.run c.write_run-steps.auto.work c.clear-2.ensures c.write_run-steps.result c.write_run-steps.ensures
