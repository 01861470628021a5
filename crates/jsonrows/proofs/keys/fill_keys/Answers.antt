-- At the loop's head the first n lines are entered and the next one starts at a. Assumes nothing.
use native.Mathlib.Omega.{arith}
use Rattle.jsonrows.proofs.KeyFilling.{filling_none, filling_more, entered_when, too_many, list_fills, list_fails}
use Rattle.jsonrows.proofs.keys.fill_keys.Goals as goal

pub loop-a-init : goal.loop-a-init
loop-a-init c = filling_none _ _ _ c.requires.zero c.requires.empty

pub returns-then-n-eq-MAX_KEYS : goal.returns-then-n-eq-MAX_KEYS
returns-then-n-eq-MAX_KEYS c = let r = list_fails (too_many c.loop-a.invariant c.loop-a-test.true c.if-n-eq-MAX_KEYS.true) in record { value = r.0; filled = r.1 }

pub enter-requires : goal.enter-requires
enter-requires c = record { few = omega (arith, c.loop-a.invariant.entered.few, c.if-n-eq-MAX_KEYS.false); entered = c.loop-a.invariant.entered; line = (c.loop-a.invariant.starts, c.line_end-e.ensures c.loop-a.invariant.starts.inside, c.loop-a-test.true) }

pub loop-a-preserved : goal.loop-a-preserved
loop-a-preserved c = filling_more c.loop-a.invariant.starts (c.line_end-e.ensures c.loop-a.invariant.starts.inside) c.min-a.ensures (entered_when c.enter.ensures c.if-enter.true)

pub returns : goal.returns
returns c = let r = list_fills c.loop-a.invariant c.loop-a-test.false in record { value = r.0; filled = r.1 }
