-- The hash of what is kept. Assumes nothing.
use Rattle.jsontext.proofs.Keeping.{slot_kept}
use Rattle.jsontext.proofs.slots.kept_slot.Goals as goal

pub returns : goal.returns
returns c bs v = rw c.from.ensures (slot_kept bs c.args.k v)
