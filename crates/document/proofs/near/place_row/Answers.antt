-- `document::near::place_row` meets its contract: each answer is that of the definition at what the probe found. Assumes nothing.
use mathlib.Core.Path.{sym, ap, ◌∙◌}
use Prim.Native.Nat.{◌%◌}
use native.Mathlib.Omega.{arith}
use Rattle.document.specs.Words.{words_cells, same_words}
use Rattle.document.proofs.Probing.{slot_inside}
use Rattle.document.proofs.Placement.{room, did_known, did_crowded, did_full, did_add}
use Rattle.document.proofs.Nearby.{words_probed}
use Rattle.document.proofs.near.place_row.Goals as goal

pub returns-then-not-has_room : goal.returns-then-not-has_room
returns-then-not-has_room c x w ready = did_full c.args.rows.now c.args.slots.now c.args.n c.args.limit x (words_cells c.args.w.a c.args.w.b c.args.w.c) (c.words_hash.result % 2048) c.look_up_words.result (sym w.cells) (ap (λ t. t % 2048) c.words_hash.ensures) (words_probed c.args.rows.now c.args.slots.now c.args.n c.args.limit ready c.args.w.a c.args.w.b c.args.w.c x w (c.words_hash.result % 2048) c.look_up_words.result c.look_up_words.ensures) c.in-Free.t c.in-Free.is c.has_room.result c.has_room.ensures c.if-not-has_room.true

pub put_words-requires : goal.put_words-requires
put_words-requires c = (room c.args.rows.now c.args.n c.args.limit c.has_room.result c.has_room.ensures c.if-not-has_room.false).fits

pub overflow_add-slots : goal.overflow_add-slots
overflow_add-slots c =
    let l = (room c.args.rows.now c.args.n c.args.limit c.has_room.result c.has_room.ensures c.if-not-has_room.false).few in
    record { fits = omega (arith, l) }

pub offset_bounds-slots-t : goal.offset_bounds-slots-t
offset_bounds-slots-t c =
    let l = slot_inside c.args.slots.now (same_words c.args.rows.now c.args.w.a c.args.w.b c.args.w.c) (c.words_hash.result % 2048) c.in-Free.t (sym c.look_up_words.ensures ∙ c.in-Free.is) in
    record { fits = omega (arith, l) }

pub bounds-slots-t : goal.bounds-slots-t
bounds-slots-t c = slot_inside c.args.slots.now (same_words c.args.rows.now c.args.w.a c.args.w.b c.args.w.c) (c.words_hash.result % 2048) c.in-Free.t (sym c.look_up_words.ensures ∙ c.in-Free.is)

pub returns-in-Found : goal.returns-in-Found
returns-in-Found c x w ready = did_known c.args.rows.now c.args.slots.now c.args.n c.args.limit x (words_cells c.args.w.a c.args.w.b c.args.w.c) (c.words_hash.result % 2048) c.look_up_words.result (sym w.cells) (ap (λ t. t % 2048) c.words_hash.ensures) (words_probed c.args.rows.now c.args.slots.now c.args.n c.args.limit ready c.args.w.a c.args.w.b c.args.w.c x w (c.words_hash.result % 2048) c.look_up_words.result c.look_up_words.ensures) c.in-Found.i c.in-Found.is

pub returns-else-not-has_room : goal.returns-else-not-has_room
returns-else-not-has_room c x w ready = did_add c.args.rows.now c.args.slots.now c.args.n c.args.limit x (words_cells c.args.w.a c.args.w.b c.args.w.c) (c.words_hash.result % 2048) c.look_up_words.result (sym w.cells) (ap (λ t. t % 2048) c.words_hash.ensures) (words_probed c.args.rows.now c.args.slots.now c.args.n c.args.limit ready c.args.w.a c.args.w.b c.args.w.c x w (c.words_hash.result % 2048) c.look_up_words.result c.look_up_words.ensures) c.in-Free.t c.in-Free.is c.has_room.result c.has_room.ensures c.if-not-has_room.false c.put_words.new.rows c.put_words.ensures

pub returns-in-Crowded : goal.returns-in-Crowded
returns-in-Crowded c x w ready = did_crowded c.args.rows.now c.args.slots.now c.args.n c.args.limit x (words_cells c.args.w.a c.args.w.b c.args.w.c) (c.words_hash.result % 2048) c.look_up_words.result (sym w.cells) (ap (λ t. t % 2048) c.words_hash.ensures) (words_probed c.args.rows.now c.args.slots.now c.args.n c.args.limit ready c.args.w.a c.args.w.b c.args.w.c x w (c.words_hash.result % 2048) c.look_up_words.result c.look_up_words.ensures) c.in-Crowded.is
