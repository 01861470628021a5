use mathlib.Core.Path.{◌≡◌}
use Rattle.automaton.specs.Stored.{rule_word}
use Rattle.automaton.specs.Window.{halfway}
use native.Mathlib.Omega.{arith}
use Rattle.automaton.proofs.Window.{sought_low, sought_high, seeks}
use Rattle.automaton.proofs.rules_from.Goals as goal

pub loop-low-init : goal.loop-low-init
loop-low-init c = search seeks

pub loop-low-preserved-then-word-symbol : goal.loop-low-preserved-then-word-symbol
loop-low-preserved-then-word-symbol c = let e : c.word.result ≡ rule_word c.args.set.now (halfway c.loop-low.low c.loop-low.high) 0 = cc in (sought_low c.args.set.now c.args.symbol c.loop-low.low c.loop-low.high _ c.loop-low.invariant.0 c.loop-low-test.true e c.if-word-symbol.true, c.loop-low.invariant.1)

pub loop-low-preserved : goal.loop-low-preserved
loop-low-preserved c = let e : c.word.result ≡ rule_word c.args.set.now (halfway c.loop-low.low c.loop-low.high) 0 = cc in (sought_high c.args.set.now c.args.symbol c.loop-low.low c.loop-low.high _ c.loop-low.invariant.0 c.loop-low-test.true e c.if-word-symbol.false, omega arith)

pub returns : goal.returns
returns c = search seeks
