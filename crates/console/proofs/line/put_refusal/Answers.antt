-- `console::line::put_refusal` meets its contract: the number decides on the place. Assumes nothing.
use Rattle.console.proofs.Printing.{below_placed, above_placed, is_placed}
use Rattle.console.proofs.line.put_refusal.Goals as goal
use Rattle.console.proofs.line.put_refusal.Goals.{then-number-lt-FIRST_PLACED-via-then-number-lt-FIRST_PLACED, then-number-lt-FIRST_PLACED-via-else-number-lt-FIRST_PLACED+then-number-gt-LAST_PLACED}

pub returns-then-number-lt-FIRST_PLACED : goal.returns-then-number-lt-FIRST_PLACED
returns-then-number-lt-FIRST_PLACED c = elim c.then-number-lt-FIRST_PLACED.branch [
  | then-number-lt-FIRST_PLACED-via-then-number-lt-FIRST_PLACED w ↦ below_placed _ _ _ _ _ (rw c.number-number.ensures at w.if-number-lt-FIRST_PLACED.true) c.put_refused.ensures
  | then-number-lt-FIRST_PLACED-via-else-number-lt-FIRST_PLACED+then-number-gt-LAST_PLACED w ↦ above_placed _ _ _ _ _ (rw c.number-number.ensures at w.if-number-lt-FIRST_PLACED.false) (rw c.number-number.ensures at w.if-number-gt-LAST_PLACED.true) c.put_refused.ensures
]

pub returns : goal.returns
returns c = rw (← c.number-number.ensures) (is_placed _ _ _ _ _ c.if-number-lt-FIRST_PLACED.false c.if-number-gt-LAST_PLACED.false c.put_refused_at.ensures)
