-- `judging::search::add` meets its contract. Assumes nothing.
use native.Mathlib.Omega.{arith}
use Rattle.membership.specs.Cells.{memory_of}
use Rattle.judging.specs.Search.{tags_in, room_in, row_asked, rule_asked, target_asked}
use Rattle.membership.proofs.Storing.{entry}
use Rattle.judging.proofs.Storing.{add_new_lem, adding}
use Rattle.judging.proofs.search.add.Goals as goal

pub returns-then-room-eq0 : goal.returns-then-room-eq0
returns-then-room-eq0 c = search adding

pub is_known-requires : goal.is_known-requires
is_known-requires c =
    let (ready, short) = c.requires in
    record { bounds = (ready.few_tags, c.slot_of-slot.ensures.1, ready.count, ready.few, ready.space); slot_is = c.slot_of-slot.ensures.0; indexed = (ready.indexed, short) }

pub returns-then-is_known : goal.returns-then-is_known
returns-then-is_known c = search adding

-- the new one, written and linked
pub returns-then-n-room : goal.returns-then-n-room
returns-then-n-room c = add_new_lem (tags_in c.args.plan.now) (room_in c.args.plan.now) c.args.work.now c.args.n (entry (row_asked c.args.asked.now) (target_asked c.args.asked.now) (memory_of (tags_in c.args.plan.now) c.args.memory.now) (rule_asked c.args.asked.now) c.args.children.now) c.is_known.result c.is_known.ensures c.put.new.work c.link.new.work c.args.slots.now c.link.new.slots c.slot_of-slot.result (omega (arith, c.if-n-room.true)) c.requires.0.few_tags c.requires.0.indexed c.if-is_known.false c.slot_of-slot.ensures.0 c.put.ensures c.link.ensures

pub returns : goal.returns
returns c = search adding
