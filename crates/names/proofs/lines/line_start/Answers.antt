use mathlib.Core.Path.{◌≡◌, subst}
use native.Mathlib.Omega.{arith}
use Rattle.names.specs.Places.{Starts}
use Rattle.names.proofs.Scan.{starts_first, starts_late}
use Rattle.names.proofs.lines.line_start.Goals as goal

pub loop-init : goal.loop-init
loop-init c = starts_first _

pub returns-then-a-s : goal.returns-then-a-s
returns-then-a-s c = starts_late _ _ _ c.loop.invariant _ c.if-a-s.true (omega arith)

pub loop-preserved : goal.loop-preserved
loop-preserved c = c.next_line-a.ensures.next _ c.loop.invariant

pub returns : goal.returns
returns c =
    let e : c.loop.counter ≡ c.args.i = omega arith in
    subst (λ n. Starts c.args.s.now n c.loop.a) e c.loop.invariant
