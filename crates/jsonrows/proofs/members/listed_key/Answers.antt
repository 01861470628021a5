-- The key stood before, or its flag is set and its entry made. Assumes nothing.
use Rattle.jsonrows.proofs.KeyWays.{listed_again, listed_first}
use Rattle.jsonrows.proofs.members.listed_key.Goals as goal

pub returns-then-listed-i : goal.returns-then-listed-i
returns-then-listed-i c = let t = listed_again c.args.k c.args.at c.args.next c.args.counts.used c.args.counts.texts c.args.level c.args.pending.now c.args.listed.now _ c.from-i.ensures c.if-listed-i.true in record { told = t.0; entered = t.1; flagged = t.2 }

pub returns : goal.returns
returns c = let t = listed_first c.args.k c.args.at c.args.next c.args.counts.used c.args.counts.texts c.args.level c.args.pending.now c.args.listed.now _ c.from-i.ensures c.if-listed-i.false in record { told = t.0; entered = t.1; flagged = t.2 }
