-- `membership::table::by_row` meets its contract. Assumes nothing.
use Rattle.membership.proofs.Rowing.{Rowing}
use Rattle.membership.proofs.table.by_row.Given as goal

abbrev pub invariant-loop-r : goal.invariant-loop-r
invariant-loop-r l = Rowing l.set l.rows l.starts l.initial.work l.i.0 l.tags l.room l.n l.f l.width l.plan.low l.plan.high l.end l.first l.work l.m l.r
