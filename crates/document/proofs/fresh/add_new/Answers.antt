-- `document::fresh::add_new` meets its contract: the empty slot is the one that a probe for the row finds. Assumes nothing.
use mathlib.Core.Path.{sym, ap, ◌∙◌}
use mathlib.Core.Bool.{false}
use Prim.Native.Nat.{◌%◌}
use native.Mathlib.Omega.{arith}
use Rattle.document.specs.Words.{words_cells}
use Rattle.document.specs.Hash.{row_hash}
use Rattle.document.proofs.Probing.{slot_inside}
use Rattle.document.proofs.Placement.{room, did_known, did_crowded, did_full, did_add}
use Rattle.document.proofs.Nearby.{new_probed}
use Rattle.document.proofs.fresh.add_new.Goals as goal

pub returns-then-not-has_room : goal.returns-then-not-has_room
returns-then-not-has_room c x w e ready new = did_full c.args.rows.now c.args.slots.now c.args.n c.args.limit x (words_cells c.args.w.a c.args.w.b c.args.w.c) (c.args.hash % 2048) c.free_slot.result (sym w.cells) (ap (λ t. t % 2048) (e ∙ ap row_hash w.cells)) (new_probed c.args.rows.now c.args.slots.now c.args.n c.args.limit ready x new (c.args.hash % 2048) c.free_slot.result c.free_slot.ensures) c.in-Free.t c.in-Free.is c.has_room.result c.has_room.ensures c.if-not-has_room.true

pub put_words-requires : goal.put_words-requires
put_words-requires c = (room c.args.rows.now c.args.n c.args.limit c.has_room.result c.has_room.ensures c.if-not-has_room.false).fits

pub overflow_add-slots : goal.overflow_add-slots
overflow_add-slots c =
    let l = (room c.args.rows.now c.args.n c.args.limit c.has_room.result c.has_room.ensures c.if-not-has_room.false).few in
    record { fits = omega (arith, l) }

pub bounds-slots-t : goal.bounds-slots-t
bounds-slots-t c = slot_inside c.args.slots.now (λ _. false) (c.args.hash % 2048) c.in-Free.t (sym c.free_slot.ensures ∙ c.in-Free.is)

pub offset_bounds-slots-t : goal.offset_bounds-slots-t
offset_bounds-slots-t c = let l = slot_inside c.args.slots.now (λ _. false) (c.args.hash % 2048) c.in-Free.t (sym c.free_slot.ensures ∙ c.in-Free.is) in record { fits = omega (arith, l) }

pub returns-in-Found : goal.returns-in-Found
returns-in-Found c x w e ready new = did_known c.args.rows.now c.args.slots.now c.args.n c.args.limit x (words_cells c.args.w.a c.args.w.b c.args.w.c) (c.args.hash % 2048) c.free_slot.result (sym w.cells) (ap (λ t. t % 2048) (e ∙ ap row_hash w.cells)) (new_probed c.args.rows.now c.args.slots.now c.args.n c.args.limit ready x new (c.args.hash % 2048) c.free_slot.result c.free_slot.ensures) c.in-Found.i c.in-Found.is

pub returns-else-not-has_room : goal.returns-else-not-has_room
returns-else-not-has_room c x w e ready new = did_add c.args.rows.now c.args.slots.now c.args.n c.args.limit x (words_cells c.args.w.a c.args.w.b c.args.w.c) (c.args.hash % 2048) c.free_slot.result (sym w.cells) (ap (λ t. t % 2048) (e ∙ ap row_hash w.cells)) (new_probed c.args.rows.now c.args.slots.now c.args.n c.args.limit ready x new (c.args.hash % 2048) c.free_slot.result c.free_slot.ensures) c.in-Free.t c.in-Free.is c.has_room.result c.has_room.ensures c.if-not-has_room.false c.put_words.new.rows c.put_words.ensures

pub returns-in-Crowded : goal.returns-in-Crowded
returns-in-Crowded c x w e ready new = did_crowded c.args.rows.now c.args.slots.now c.args.n c.args.limit x (words_cells c.args.w.a c.args.w.b c.args.w.c) (c.args.hash % 2048) c.free_slot.result (sym w.cells) (ap (λ t. t % 2048) (e ∙ ap row_hash w.cells)) (new_probed c.args.rows.now c.args.slots.now c.args.n c.args.limit ready x new (c.args.hash % 2048) c.free_slot.result c.free_slot.ensures) c.in-Crowded.is
