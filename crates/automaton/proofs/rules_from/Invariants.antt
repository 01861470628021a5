-- `automaton::rules_from` meets its contract: from each turn's bounds on, bisection ends where the whole one does. Assumes nothing.
use Prim.Native.Nat.{◌-◌, ◌<◌}
use Rattle.automaton.proofs.Window.{Sought}
use Rattle.automaton.proofs.rules_from.Given as goal

abbrev pub invariant-loop-low : goal.invariant-loop-low
invariant-loop-low l = Sought l.set l.symbol l.low l.high × (l.high < 65536)

abbrev pub decreases-loop-low : goal.decreases-loop-low
decreases-loop-low l = l.high - l.low
