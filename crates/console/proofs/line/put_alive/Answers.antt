-- `console::line::put_alive` meets its contract: the text's line is put behind the height's. Assumes nothing.
use Rattle.console.proofs.Printing.{alive_put}
use Rattle.console.proofs.line.put_alive.Goals as goal

pub returns : goal.returns
returns c = alive_put _ _ _ _ _ _ _ c.requires (rw c.from.ensures at c.put_number_line-end.ensures.wrote, c.put_number_line-end.ensures.few) c.put_line.ensures
