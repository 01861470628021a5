-- `console::line::put_number` meets its contract: the digits are put, and the place after them comes back. Assumes nothing.
use Rattle.console.proofs.Printing.{decimal_put}
use Rattle.console.proofs.line.put_number.Goals as goal

pub returns : goal.returns
returns c = let r = decimal_put _ _ _ _ _ (c.put_decimal.ensures.count, (c.put_decimal.ensures.space, c.put_decimal.ensures.few)) in record { wrote = r.0; few = r.1 }
