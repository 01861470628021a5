-- A quote behind the bytes that stand for themselves, or a char. Assumes nothing.
use mathlib.Core.Path.{◌∙◌}
use Rattle.jsontext.proofs.Scanning.{scan_start}
use Rattle.jsontext.proofs.DecodedSlots.{keeping_begin, keeping_end, slot_none}
use Rattle.jsontext.proofs.strings.read.Goals as goal

pub returns-then-byte_at-ne34 : goal.returns-then-byte_at-ne34
returns-then-byte_at-ne34 c l = slot_none _ _ _ c.byte_at.ensures c.if-byte_at-ne34.true

pub returns-then-byte_at-eq34 : goal.returns-then-byte_at-eq34
returns-then-byte_at-eq34 c =
    λ l.
    keeping_end _ _ _ _
    (keeping_begin _ _ _ _ c.plain_end-i.ensures _ _ (scan_start _ _ _ c.byte_at.ensures c.if-byte_at-ne34.false) c.keep_none.ensures c.keep_part-k.ensures) _
    c.byte_at-2.ensures c.if-byte_at-eq34.true _ c.kept_slot.ensures

pub read_on-requires : goal.read_on-requires
read_on-requires c = record { «open» = λ q. c.if-byte_at-eq34.false (c.byte_at-2.ensures ∙ q); behind = (scan_start _ _ _ c.byte_at.ensures c.if-byte_at-ne34.false, c.plain_end-i.ensures) }
