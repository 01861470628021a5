-- `judging::table::by_row` meets its contract. Assumes nothing.
use Rattle.judging.proofs.Rowing.{Rowing}
use Rattle.judging.proofs.table.by_row.Given as goal

abbrev pub invariant-loop-r : goal.invariant-loop-r
invariant-loop-r l = Rowing l.set l.rows l.starts l.rules l.initial.work l.initial.slots l.i.0 l.tags l.room l.n l.f l.width l.plan l.chains.heads l.chains.links l.end l.first l.work l.slots l.children l.tried l.m l.r
