-- The lead byte's numbers are its row of the table. Assumes nothing.
use Prim.Native.Nat.{◌<◌, ◌+◌}
use mathlib.Core.Path.{◌∙◌}
use native.Mathlib.Omega.{arith}
use lib.ListN.{length}
use Rattle.jsontext.proofs.LeadRows.{lead_none, lead_bad, lead_more, lead_inside, second_inside}
use Rattle.jsontext.proofs.utf8.sequence.Goals as goal

pub returns-then-n-eq0 : goal.returns-then-n-eq0
returns-then-n-eq0 c = lead_none c.args.text.now c.args.at _ _ c.byte_at-b.ensures c.byte_at-b.type_inv c.follows-n.ensures.0 c.if-n-eq0.true

pub overflow_add-at : goal.overflow_add-at
overflow_add-at c = omega (arith, (let h-inside : c.args.at < length c.args.text.now = lead_inside c.args.text.now c.args.at _ _ c.byte_at-b.ensures c.follows-n.ensures.0 c.if-n-eq0.false in h-inside))

pub overflow_add-result : goal.overflow_add-result
overflow_add-result c = omega (arith, (let h-inside : c.args.at < length c.args.text.now = lead_inside c.args.text.now c.args.at _ _ c.byte_at-b.ensures c.follows-n.ensures.0 c.if-n-eq0.false in h-inside))

pub returns-then-not-within : goal.returns-then-not-within
returns-then-not-within c =
    lead_bad c.args.text.now c.args.at _ _ _ _ c.byte_at-b.ensures c.byte_at-b.type_inv c.follows-n.ensures.0 c.lowest.ensures c.highest.ensures
    _ _ c.if-n-eq0.false c.byte_at.ensures c.within.ensures c.if-not-within.true

pub overflow_add-at-2 : goal.overflow_add-at-2
overflow_add-at-2 c =
    let h : c.args.at + 1 < length c.args.text.now = second_inside c.args.text.now c.args.at _ _ _ _ c.byte_at-b.ensures c.byte_at-b.type_inv c.follows-n.ensures.0 c.lowest.ensures c.highest.ensures _ _ c.if-n-eq0.false c.byte_at.ensures c.within.ensures c.if-not-within.false in
    omega arith

pub returns : goal.returns
returns c =
    c.tails.ensures
    ∙ lead_more c.args.text.now c.args.at _ _ _ _ c.byte_at-b.ensures c.byte_at-b.type_inv c.follows-n.ensures.0 c.lowest.ensures c.highest.ensures
    _ _ c.if-n-eq0.false c.byte_at.ensures c.within.ensures c.if-not-within.false
