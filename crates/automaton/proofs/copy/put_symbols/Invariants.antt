-- `automaton::copy::put_symbols` meets its contract: the loop has put the symbols before its index. Assumes nothing.
use mathlib.Core.Path.{◌≡◌}
use lib.ListN.{length}
use Rattle.automaton.specs.Stored.{decode}
use Rattle.automaton.proofs.Laying.{Parts}
use Rattle.automaton.specs.Encode.{encode_symbol}
use Rattle.automaton.proofs.copy.put_symbols.Given as goal

abbrev pub invariant-loop-f : goal.invariant-loop-f
invariant-loop-f l = (l.n ≡ length (decode l.set).arities) × Parts encode_symbol (decode l.set).arities l.initial.out l.out l.at l.end l.f
