-- What closes the items is refused, or its leaf is the rest of the last one. Assumes nothing.
use mathlib.Core.Path.{refl}
use Prim.Native.Nat.{◌-◌}
use Rattle.std.proofs.lemmas.Result.{err_from_is_err_and}
use Rattle.jsonrows.proofs.Holding.{said, said_no, says_since}
use Rattle.jsonrows.proofs.Framing.{close_refused, close_rest, framed_closed}
use Rattle.jsonrows.proofs.frames.close_items.Goals as goal

pub unwind-requires : goal.unwind-requires
unwind-requires c =
    let s = said c.in_ok-last.ensures refl in
    record { holds = s.holds; read = (s.inside, s.behind); framed = framed_closed c.args.tables.now.rows c.args.tables.now.starts c.args.counts.used c.args.counts.texts _ _ _ _ s c.requires.framed }

pub returns-in_err-last : goal.returns-in_err-last
returns-in_err-last c = let p = err_from_is_err_and c.from_residual.result c.from_residual.ensures.1 in rw (p.1, p.2) (close_refused c.args.frames.now c.args.low (c.args.top - c.args.low) (said_no c.in_err-last.ensures refl))

pub returns : goal.returns
returns c = let s = said c.in_ok-last.ensures refl in close_rest c.args.frames.now c.args.low (c.args.top - c.args.low) s.outcome (says_since _ _ s.more s.same c.unwind.ensures)
