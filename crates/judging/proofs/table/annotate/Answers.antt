use mathlib.Core.Path.{refl, sym, ◌∙◌, subst}
use Prim.Native.Nat.{ℕ, suc, ◌<◌}
use native.Mathlib.Omega.{arith}
use lib.ListN.{length, set, length-replicate}
use Rattle.automaton.specs.Stored.{decode}
use Rattle.document.specs.Rows.{decode_rows}
use Rattle.document.proofs.Places.{rows_length}
use Rattle.judging.specs.Entries.{Held}
use Rattle.membership.specs.Listing.{entries_below}
use Rattle.membership.specs.Plan.{Starts}
use Rattle.judging.specs.Plan.{RulesRead, Before}
use Rattle.judging.specs.Tried.{Fresh}
use Rattle.membership.proofs.Rowing.{few_rules}
use Rattle.judging.proofs.Annotating.{fresh_slots, annotating_start, room_small, row_before, row_starts, annotating_more, annotating_full, annotating_all}
use Rattle.judging.proofs.table.annotate.Goals as goal

pub read_rules-requires : goal.read_rules-requires
read_rules-requires c =
    let few = few_rules c.args.set.now c.requires.0 in
    omega (arith, few, c.header-head.ensures.rules)

pub loop-i-init : goal.loop-i-init
loop-i-init c = annotating_start c.args.set.now c.args.rows.now c.room_of-room.result c.from-tags.result (length c.args.work.now) _ _ c.args.work.now _ c.requires.0 c.requires.1 (c.from-tags.ensures ∙ c.header-head.ensures.tags) c.room_of-room.ensures refl (length-replicate {A = ℕ} 1024 0) (fresh_slots 1024 _)

pub narrow-requires : goal.narrow-requires
narrow-requires c =
    let (few, x, y) = room_small c.args.set.now c.args.rows.now c.room_of-room.result c.from-tags.result (length c.args.work.now) c.loop-i.starts c.loop-i.tried c.loop-i.work c.loop-i.slots c.loop-i.n c.loop-i.i c.loop-i.invariant in
    omega (arith, few)

pub bounds-starts-i : goal.bounds-starts-i
bounds-starts-i c =
    let len = rows_length c.args.rows.now in
    let is_row : c.loop-i.i < length (decode_rows c.args.rows.now) = omega (arith, len, c.count-end.ensures, c.loop-i-test.true) in
    omega (arith, is_row, c.loop-i.invariant.table.few_rows, c.loop-i.invariant.wide)

pub narrow-requires-in-loop-i : goal.narrow-requires-in-loop-i
narrow-requires-in-loop-i c =
    let len = rows_length c.args.rows.now in
    let is_row : c.loop-i.i < length (decode_rows c.args.rows.now) = omega (arith, len, c.count-end.ensures, c.loop-i-test.true) in
    omega (arith, is_row, c.loop-i.invariant.table.few_rows)

pub by_row-requires : goal.by_row-requires
by_row-requires c =
    let len = rows_length c.args.rows.now in
    let is_row : c.loop-i.i < length (decode_rows c.args.rows.now) = omega (arith, len, c.count-end.ensures, c.loop-i-test.true) in
    let same = sym c.narrow-in-loop-i.ensures in record { sound = (c.loop-i.invariant.ok, c.loop-i.invariant.table); before = subst (λ k. Before (decode c.args.set.now) (decode_rows c.args.rows.now) k c.room_of-room.result c.from-tags.result c.loop-i.work c.loop-i.slots c.loop-i.n) same (row_before c.args.set.now c.args.rows.now c.room_of-room.result c.from-tags.result (length c.args.work.now) c.loop-i.starts c.loop-i.tried c.loop-i.work c.loop-i.slots c.loop-i.n c.loop-i.i c.loop-i.invariant is_row); starts = (subst (λ k. Starts (decode c.args.set.now) (decode_rows c.args.rows.now) (set c.loop-i.starts c.loop-i.i c.narrow.result) k) same (row_starts c.args.set.now c.args.rows.now c.room_of-room.result c.from-tags.result (length c.args.work.now) c.loop-i.starts c.loop-i.tried c.loop-i.work c.loop-i.slots c.loop-i.n c.loop-i.i c.loop-i.invariant is_row c.narrow.result c.narrow.ensures), c.first_rules-firsts.ensures); rules_read = (subst (λ k. RulesRead (decode c.args.set.now) k c.read_rules.new.rules) c.header-head.ensures.rules c.read_rules.ensures, subst (λ k. Fresh k 0 c.loop-i.tried) same c.loop-i.invariant.fresh) }

pub returns-in_err-n : goal.returns-in_err-n
returns-in_err-n c =
    let len = rows_length c.args.rows.now in
    let is_row : c.loop-i.i < length (decode_rows c.args.rows.now) = omega (arith, len, c.count-end.ensures, c.loop-i-test.true) in
    let f = subst (λ k. c.room_of-room.result < length (entries_below (decode c.args.set.now) (decode_rows c.args.rows.now) (suc k))) c.narrow-in-loop-i.ensures c.in_err-n.ensures.0 in
    rw c.from_residual.ensures (annotating_full c.args.set.now c.args.rows.now c.room_of-room.result c.from-tags.result (length c.args.work.now) c.loop-i.starts c.loop-i.tried c.loop-i.work c.loop-i.slots c.loop-i.n c.loop-i.i c.loop-i.invariant is_row f)

pub loop-i-preserved : goal.loop-i-preserved
loop-i-preserved c =
    let len = rows_length c.args.rows.now in
    let is_row : c.loop-i.i < length (decode_rows c.args.rows.now) = omega (arith, len, c.count-end.ensures, c.loop-i-test.true) in
    let g = subst (λ k. Held c.loop-i.n c.room_of-room.result c.from-tags.result (entries_below (decode c.args.set.now) (decode_rows c.args.rows.now) (suc k)) c.by_row.new.work c.by_row.new.slots c.in_ok-n.n) c.narrow-in-loop-i.ensures c.in_ok-n.ensures.0 in
    let fresh = subst (λ k. Fresh (suc k) 0 c.by_row.new.tried) c.narrow-in-loop-i.ensures c.in_ok-n.ensures.1 in
    annotating_more c.args.set.now c.args.rows.now c.room_of-room.result c.from-tags.result (length c.args.work.now) c.loop-i.starts c.loop-i.tried c.loop-i.work c.loop-i.slots c.loop-i.n c.loop-i.i c.loop-i.invariant is_row c.narrow.result c.narrow.ensures c.by_row.new.work c.by_row.new.tried c.by_row.new.slots c.in_ok-n.n g fresh c.by_row.auto.work

pub shape_of-work : goal.shape_of-work
shape_of-work c = c.loop-i.invariant.space

pub returns : goal.returns
returns c =
    let len = rows_length c.args.rows.now in
    annotating_all c.args.set.now c.args.rows.now c.room_of-room.result c.from-tags.result (length c.args.work.now) c.loop-i.starts c.loop-i.tried c.loop-i.work c.loop-i.slots c.loop-i.n c.loop-i.i c.loop-i.invariant (omega (arith, len, c.count-end.ensures, c.loop-i-test.false))
