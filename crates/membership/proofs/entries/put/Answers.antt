-- `membership::entries::put` meets its contract. Assumes nothing.
use native.Mathlib.Omega.{arith}
use lib.ListN.{length-set}
use Rattle.membership.proofs.Storing.{stored}
use Rattle.membership.proofs.entries.put.Goals as goal

pub bounds-work-at-2 : goal.bounds-work-at-2
bounds-work-at-2 c = simp length-set (omega arith)

-- the space keeps its length
pub bounds-work-at-3 : goal.bounds-work-at-3
bounds-work-at-3 c = let e = simp length-set at c.put.auto.out in omega arith

pub bounds-work-at-4 : goal.bounds-work-at-4
bounds-work-at-4 c = let e = simp length-set at c.put.auto.out in simp length-set (omega arith)

pub shape_of-work : goal.shape_of-work
shape_of-work c =
    let e = simp length-set at c.put.auto.out in
    let f = simp length-set at c.put-2.auto.out in
    omega arith

pub returns : goal.returns
returns c =
    let e = simp length-set at c.put.auto.out in
    stored c.args.tags c.args.work.now c.put.new.out c.put-2.new.out c.args.n c.args.row.0 c.args.state.0 c.args.rule c.args.memory.now c.args.children (omega arith) (omega arith) (omega arith) (omega arith) (omega arith) c.put.ensures c.put-2.ensures
