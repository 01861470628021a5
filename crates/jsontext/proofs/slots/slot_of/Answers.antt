-- All the bytes are kept. Assumes nothing.
use mathlib.Core.Path.{◌∙◌, ap}
use Rattle.jsontext.specs.Decoded.{text_slot}
use Rattle.jsontext.proofs.Keeping.{part_all}
use Rattle.jsontext.proofs.slots.slot_of.Goals as goal

pub returns : goal.returns
returns c = c.kept_slot.ensures _ (c.keep_part.ensures _ c.keep_none.ensures) ∙ ap text_slot (part_all c.args.bytes.now)
