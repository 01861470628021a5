-- A quote at the end closes the string. Assumes nothing.
use mathlib.Core.Path.{sym, ◌∙◌}
use mathlib.Core.List.{[]}
use Rattle.jsontext.proofs.shorts.short_to.Goals as goal

pub returns : goal.returns
returns c =
    record {
      opens = c.requires.0;
      plain = c.requires.1;
      closes = sym c.byte_at.ensures ∙ c.if-byte_at-ne34.false;
      slot_is = c.kept_slot-slot.ensures _ (c.keep_part.ensures [] c.keep_none.ensures);
    }
