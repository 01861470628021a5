use native.Mathlib.Omega.{arith}
use Rattle.names.proofs.Listed.{listing, all_or_more}
use Rattle.names.proofs.lines.list_fits.Goals as goal

pub loop-init : goal.loop-init
loop-init c = search listing

pub returns-then-a-s : goal.returns-then-a-s
returns-then-a-s c = search listing

pub line_fits-requires : goal.line_fits-requires
line_fits-requires c = record { lent = search listing }

pub loop-preserved : goal.loop-preserved
loop-preserved c = let next = c.next_line-a.ensures.next _ c.loop.invariant.starts in search listing

pub returns-then-not-line_fits : goal.returns-then-not-line_fits
returns-then-not-line_fits c = search listing

pub returns : goal.returns
returns c = all_or_more _ _ _ c.loop.invariant (omega arith)
