-- `judging::table::open_windows` meets its contract. Assumes nothing.
use Rattle.judging.proofs.Windowing.{Opens}
use Rattle.judging.proofs.table.open_windows.Given as goal

abbrev pub invariant-loop-p : goal.invariant-loop-p
invariant-loop-p l = Opens l.work l.plan l.chains.heads l.chains.links l.p
