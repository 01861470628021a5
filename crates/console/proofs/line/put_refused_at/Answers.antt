-- `console::line::put_refused_at` meets its contract: the line is the output. Assumes nothing.
use native.Mathlib.Omega.{arith}
use Rattle.console.proofs.Printing.{refused_at_put}
use Rattle.console.proofs.line.put_refused_at.Goals as goal

pub put_end-requires : goal.put_end-requires
put_end-requires c = omega (arith, c.put_numbers-end.ensures.few, c.requires)

pub returns : goal.returns
returns c = refused_at_put _ _ _ _ _ _ _ c.requires (c.put_numbers-end.ensures.wrote, c.put_numbers-end.ensures.few) c.put_end.ensures
