-- `judging::chains::open_window` meets its contract. Assumes nothing.
use Rattle.judging.specs.Chains.{class_in}
use Rattle.judging.proofs.States.{Threading}
use Rattle.judging.proofs.chains.open_window.Given as goal

abbrev pub invariant-loop-j : goal.invariant-loop-j
invariant-loop-j l = Threading (class_in l.work) l.p l.low l.high l.initial.chains.heads l.initial.chains.links l.chains.heads l.chains.links l.j
