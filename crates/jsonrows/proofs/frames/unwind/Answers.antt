-- At the loop's head the rows below level l are made. Assumes nothing.
use mathlib.Core.Path.{refl}
use Rattle.std.proofs.lemmas.Result.{err_from_is_err_and}
use native.Mathlib.Omega.{arith}
use Rattle.jsonrows.proofs.Holding.{said, said_no}
use Rattle.jsonrows.proofs.Framing.{unwind_refused, unwind_more, unwind_done}
use Rattle.jsonrows.proofs.frames.unwind.Goals as goal

pub join-requires : goal.join-requires
join-requires c =
    let f = c.requires.framed.each c.loop-l.l c.loop-l.invariant.from c.loop-l-test.true in
    record { holds = c.loop-l.invariant.holds; behind = c.loop-l.invariant.behind; plain = f.plain; inside = (f.key, omega (arith, f.value, c.loop-l.invariant.grown), c.loop-l.invariant.inside); own = λ q. let o = f.own q in omega (arith, o, c.loop-l.invariant.grown) }

pub returns-in_err-part : goal.returns-in_err-part
returns-in_err-part c = let p = err_from_is_err_and c.from_residual.result c.from_residual.ensures.1 in rw (p.1, p.2) (unwind_refused c.loop-l.invariant c.loop-l-test.true (said_no c.in_err-part.ensures refl))

pub loop-l-preserved : goal.loop-l-preserved
loop-l-preserved c = unwind_more c.loop-l.invariant c.loop-l-test.true (said c.in_ok-part.ensures refl)

pub returns : goal.returns
returns c = unwind_done c.loop-l.invariant c.loop-l-test.false
