-- `console::line::put_number_line` meets its contract: the line's end is put behind the number. Assumes nothing.
use Rattle.console.proofs.Printing.{number_line_put}
use Rattle.console.proofs.line.put_number_line.Goals as goal

pub returns : goal.returns
returns c = let r = number_line_put _ _ _ _ _ _ _ _ c.requires (c.put_numbered-end.ensures.wrote, c.put_numbered-end.ensures.few) c.put_end.ensures in record { wrote = r.0; few = r.1 }
