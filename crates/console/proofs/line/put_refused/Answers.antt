-- `console::line::put_refused` meets its contract: the line is the output. Assumes nothing.
use Rattle.console.proofs.Printing.{refused_put}
use Rattle.console.proofs.line.put_refused.Goals as goal

pub returns : goal.returns
returns c = refused_put _ _ _ _ c.requires (rw (c.from.ensures, c.number.ensures) at c.put_number_line.ensures.wrote, c.put_number_line.ensures.few)
