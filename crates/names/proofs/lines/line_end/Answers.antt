use mathlib.Core.Path.{◌≡◌, subst}
use native.Mathlib.Omega.{arith}
use lib.ListN.{length}
use Rattle.names.specs.Places.{Ended}
use borrow.Author.Rules.{rules}
use Rattle.names.proofs.Scan.{scan_stop, scan_more, scan_end}
use Rattle.names.proofs.lines.line_end.Goals as goal

pub returns-then-s-i-eq10 : goal.returns-then-s-i-eq10
returns-then-s-i-eq10 c h = scan_stop _ _ _ (c.loop-i.invariant h) (search rules) c.if-s-i-eq10.true

pub loop-i-preserved : goal.loop-i-preserved
loop-i-preserved c h = scan_more _ _ _ (c.loop-i.invariant h) (search rules) c.if-s-i-eq10.false

pub returns : goal.returns
returns c h =
    let e : c.loop-i.i ≡ length c.args.s.now = omega arith in
    subst (Ended c.args.s.now c.args.a) e (scan_end _ _ _ (c.loop-i.invariant h) (omega arith))
