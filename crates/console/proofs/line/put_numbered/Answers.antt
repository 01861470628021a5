-- `console::line::put_numbered` meets its contract: the number is put behind the word. Assumes nothing.
use Rattle.console.proofs.Printing.{numbered_put}
use Rattle.console.proofs.line.put_numbered.Goals as goal

pub returns : goal.returns
returns c = let r = numbered_put _ _ _ _ _ _ _ _ c.requires c.put_bytes-end.ensures (c.put_number.ensures.wrote, c.put_number.ensures.few) in record { wrote = r.0; few = r.1 }
