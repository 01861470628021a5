-- `console::line::put_numbers` meets its contract: the place is put behind the number. Assumes nothing.
use Rattle.console.proofs.Printing.{numbers_put}
use Rattle.console.proofs.line.put_numbers.Goals as goal

pub returns : goal.returns
returns c = let r = numbers_put _ _ _ _ _ _ _ c.requires (rw c.from.ensures at c.put_numbered-end.ensures.wrote, c.put_numbered-end.ensures.few) (c.put_numbered.ensures.wrote, c.put_numbered.ensures.few) in record { wrote = r.0; few = r.1 }
