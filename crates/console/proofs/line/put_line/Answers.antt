-- `console::line::put_line` meets its contract: the line's end is put behind the bytes. Assumes nothing.
use native.Mathlib.Omega.{arith}
use Rattle.console.proofs.Printing.{line_put}
use Rattle.console.proofs.line.put_line.Goals as goal

pub returns : goal.returns
returns c = (line_put _ _ _ _ _ _ _ (omega (arith, c.put_bytes-end.ensures.place, c.requires)) c.put_bytes-end.ensures c.put_end.ensures).0
