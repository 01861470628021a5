-- Digits that end early, none of them a 0 before others, are the whole part. Assumes nothing.
use native.Mathlib.Omega.{arith}
use Rattle.jsontext.proofs.ShortRuns.{whole_placed, whole_begins}
use Rattle.jsontext.proofs.number.short_whole.Goals as goal

pub returns : goal.returns
returns c =
    let p = whole_placed _ _ _ c.few_digits-run.ensures.within (omega arith) c.if-next-at.false in
    record { placed = p; begins = λ l. whole_begins _ _ _ p (c.few_digits-run.ensures.few_read l) c.if-text-at.false }
