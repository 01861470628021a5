-- `document::builder::has_room` meets its contract. Assumes nothing.
use Rattle.document.specs.Builder.{room_for?}
use Rattle.document.proofs.builder.has_room.Goals as goal

pub returns : goal.returns
unfolding room_for?
returns c = rw c.from-m.ensures
