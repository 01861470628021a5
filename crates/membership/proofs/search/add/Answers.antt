-- `membership::search::add` meets its contract. Assumes nothing.
use native.Mathlib.Omega.{arith}
use Rattle.membership.specs.Cells.{memory_of}
use Rattle.membership.proofs.Storing.{entry, add_new_lem, adding}
use Rattle.membership.proofs.search.add.Goals as goal

pub returns-then-want-eq0 : goal.returns-then-want-eq0
returns-then-want-eq0 c = search adding

pub returns-then-is_known : goal.returns-then-is_known
returns-then-is_known c = search adding

-- the new one, written and linked
pub returns-then-n-want : goal.returns-then-n-want
returns-then-n-want c = add_new_lem c.args.want.now.tags c.args.want.now.room c.args.work.now c.args.n (entry c.args.want.now.row.0 c.args.want.now.target.0 (memory_of c.args.want.now.tags c.args.memory.now) c.args.want.now.rule c.args.children) c.is_known.result c.is_known.ensures c.put.new.work c.link.new.work c.slot_of-slot.result (omega (arith, c.if-n-want.true)) c.requires.0.few_tags c.requires.0.indexed c.if-is_known.false c.slot_of-slot.ensures.0 c.put.ensures c.link.ensures

pub returns : goal.returns
returns c = search adding
