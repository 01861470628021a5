-- The line's places and slot are written where the probe found no equal line. Assumes nothing.
use mathlib.Core.Path.{refl, sym, ◌∙◌}
use native.Mathlib.Omega.{arith}
use Rattle.jsonrows.specs.KeyTable.{line_entered, list_unfit}
use Rattle.jsonrows.proofs.KeyFilling.{not_key, line_taken, slot_inside, token_told, places_entered}
use Rattle.jsonrows.proofs.keys.enter.Goals as goal

pub returns-then-not-is_key : goal.returns-then-not-is_key
returns-then-not-is_key c = list_unfit (not_key c.requires.entered c.requires.line.0 c.requires.line.1 c.requires.line.2 _ c.is_key.ensures c.if-not-is_key.true)

pub bounds-key_slots-i : goal.bounds-key_slots-i
bounds-key_slots-i c = slot_inside c.requires.entered c.requires.line.0 c.requires.line.1 c.requires.line.2 _ c.slot_of.ensures _ c.line_slot.ensures _ c.in-Some.is

pub offset_bounds-key_slots-i : goal.offset_bounds-key_slots-i
offset_bounds-key_slots-i c = record { fits = omega (arith, slot_inside c.requires.entered c.requires.line.0 c.requires.line.1 c.requires.line.2 _ c.slot_of.ensures _ c.line_slot.ensures _ c.in-Some.is) }

pub returns-in-None : goal.returns-in-None
returns-in-None c = list_unfit (line_taken c.requires.entered c.requires.line.0 c.requires.line.1 c.requires.line.2 _ c.slot_of.ensures _ c.line_slot.ensures c.in-None.is)

pub returns-in-Some : goal.returns-in-Some
returns-in-Some c =
    let key = sym c.is_key.ensures ∙ c.if-not-is_key.false in
    line_entered
    (places_entered c.requires.entered c.requires.line.0 c.requires.line.1 c.requires.line.2 _ c.slot_of.ensures _ c.line_slot.ensures _ c.in-Some.is _ refl refl (token_told _ c.token_of.ensures.token_of) _ c.from.ensures c.requires.few key)
