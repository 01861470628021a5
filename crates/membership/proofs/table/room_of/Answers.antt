-- `membership::table::room_of` meets its contract. Assumes nothing.
use Rattle.membership.proofs.Own.{rooms}
use Rattle.membership.proofs.table.room_of.Goals as goal

pub returns : goal.returns
returns c = search rooms
