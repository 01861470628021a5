-- `document::builder::find_or_add` meets its contract: each answer is that of the definition at what the probe found. Assumes nothing.
use native.Mathlib.Omega.{arith}
use Rattle.document.specs.Fields.{fields_row}
use Rattle.document.proofs.Placement.{room, inside, did_known, did_crowded, did_full, did_add}
use Rattle.document.proofs.builder.find_or_add.Goals as goal

pub returns-then-not-has_room : goal.returns-then-not-has_room
returns-then-not-has_room c = record { did = did_full c.args.rows.now c.args.slots.now c.args.n c.args.limit (fields_row c.args.f) c.cells_of-cells.result c.start_slot-start.result c.look_up.result c.cells_of-cells.ensures.value c.start_slot-start.ensures c.look_up.ensures c.in-Free.t c.in-Free.is c.has_room.result c.has_room.ensures c.if-not-has_room.true; kept = c.cells_of-cells.ensures.kept }

pub overflow_add-slots : goal.overflow_add-slots
overflow_add-slots c =
    let l = (room c.args.rows.now c.args.n c.args.limit c.has_room.result c.has_room.ensures c.if-not-has_room.false).few in
    record { fits = omega arith }

pub offset_bounds-slots-t : goal.offset_bounds-slots-t
offset_bounds-slots-t c =
    let l = inside c.args.rows.now c.args.slots.now c.args.n c.args.limit (fields_row c.args.f) c.cells_of-cells.result c.start_slot-start.result c.look_up.result c.cells_of-cells.ensures.value c.start_slot-start.ensures c.look_up.ensures c.in-Free.t c.in-Free.is c.has_room.result c.has_room.ensures in
    record { fits = omega arith }

pub bounds-slots-t : goal.bounds-slots-t
bounds-slots-t c = inside c.args.rows.now c.args.slots.now c.args.n c.args.limit (fields_row c.args.f) c.cells_of-cells.result c.start_slot-start.result c.look_up.result c.cells_of-cells.ensures.value c.start_slot-start.ensures c.look_up.ensures c.in-Free.t c.in-Free.is c.has_room.result c.has_room.ensures

pub returns-in-Found : goal.returns-in-Found
returns-in-Found c = record { did = did_known c.args.rows.now c.args.slots.now c.args.n c.args.limit (fields_row c.args.f) c.cells_of-cells.result c.start_slot-start.result c.look_up.result c.cells_of-cells.ensures.value c.start_slot-start.ensures c.look_up.ensures c.in-Found.i c.in-Found.is; kept = c.cells_of-cells.ensures.kept }

pub returns-else-not-has_room : goal.returns-else-not-has_room
returns-else-not-has_room c = record { did = did_add c.args.rows.now c.args.slots.now c.args.n c.args.limit (fields_row c.args.f) c.cells_of-cells.result c.start_slot-start.result c.look_up.result c.cells_of-cells.ensures.value c.start_slot-start.ensures c.look_up.ensures c.in-Free.t c.in-Free.is c.has_room.result c.has_room.ensures c.if-not-has_room.false c.put_cells.new.out c.put_cells.ensures; kept = c.cells_of-cells.ensures.kept }

pub returns-in-Crowded : goal.returns-in-Crowded
returns-in-Crowded c = record { did = did_crowded c.args.rows.now c.args.slots.now c.args.n c.args.limit (fields_row c.args.f) c.cells_of-cells.result c.start_slot-start.result c.look_up.result c.cells_of-cells.ensures.value c.start_slot-start.ensures c.look_up.ensures c.in-Crowded.is; kept = c.cells_of-cells.ensures.kept }
