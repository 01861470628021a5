-- Both halves of the payload; nothing; one cell; or the lower half. Assumes nothing.
use native.Mathlib.Omega.{arith}
use Rattle.document.proofs.Hashing.{both_hashed, no_payload, one_payload, half_payload}
use Rattle.document.proofs.hash.add_rest.Goals as goal

pub returns-then-c-ne0 : goal.returns-then-c-ne0
returns-then-c-ne0 c = both_hashed c.args.h c.args.x c.args.c _ _ c.add_two.ensures c.add_two-then-c-ne0.ensures

pub returns-then-x-eq0 : goal.returns-then-x-eq0
returns-then-x-eq0 c = no_payload c.args.h c.args.x c.args.c c.if-c-ne0.false _ (omega (arith, c.ranges)) c.if-x-eq0.true c.times.ensures

pub returns-then-x-lt65536 : goal.returns-then-x-lt65536
returns-then-x-lt65536 c = one_payload c.args.h c.args.x c.args.c c.if-c-ne0.false _ _ _ c.low_cell.ensures c.add_cell.ensures (omega (arith, c.add_cell.type_inv)) c.if-x-lt65536.true c.times-then-x-lt65536.ensures

pub returns : goal.returns
returns c = half_payload c.args.h c.args.x c.args.c c.if-c-ne0.false _ _ c.add_two-2.ensures (omega (arith, c.add_two-2.type_inv)) c.times-2.ensures
