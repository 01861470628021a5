-- The slots tried held lines that differ. Assumes nothing.
use mathlib.Core.Path.{◌≡◌, refl, ap, ◌∙◌}
use native.Mathlib.Omega.{arith}
use borrow.Author.Rules.{rules}
use Rattle.model.specs.Lists.{eq_list}
use Rattle.document.proofs.Searching.{searched_none, searched_free, searched_known, searched_more, searched_all}
use Rattle.jsonrows.specs.KeyTable.{free_in}
use Rattle.jsonrows.proofs.Keying.{held_line}
use Rattle.jsonrows.proofs.keys.line_slot.Goals as goal
use Rattle.jsonrows.proofs.keys.line_slot.Invariants.{same?}

pub loop-d-init : goal.loop-d-init
loop-d-init c = searched_none c.args.key_slots.now (same? c.args.line.now c.args.list.now) c.args.slot

pub returns-then-held-eq0 : goal.returns-then-held-eq0
returns-then-held-eq0 c = ap free_in (searched_free c.args.key_slots.now (same? c.args.line.now c.args.list.now) c.args.slot c.loop-d.d c.from.result _ c.loop-d.invariant (search rules) c.from.ensures refl c.if-held-eq0.true)

pub key_line-requires : goal.key_line-requires
key_line-requires c =
    let below = held_line c.requires.1 _ refl c.if-held-eq0.false in
    record { few = omega (arith, below, c.requires.1.few); placed = c.requires.1.stands _ below }

pub returns-then-eq : goal.returns-then-eq
returns-then-eq c =
    let alike : c.eq.result ≡ eq_list c.args.line.now c.key_line.result.now = search rules in
    let tested = alike ∙ ap (eq_list c.args.line.now) c.key_line.ensures in
    ap free_in (searched_known c.args.key_slots.now (same? c.args.line.now c.args.list.now) c.args.slot c.loop-d.d c.from.result _ c.loop-d.invariant (search rules) c.from.ensures refl c.eq.result c.if-held-eq0.false tested c.if-eq.true)

pub loop-d-preserved : goal.loop-d-preserved
loop-d-preserved c =
    let alike : c.eq.result ≡ eq_list c.args.line.now c.key_line.result.now = search rules in
    let tested = alike ∙ ap (eq_list c.args.line.now) c.key_line.ensures in
    searched_more c.args.key_slots.now (same? c.args.line.now c.args.list.now) c.args.slot c.loop-d.d c.from.result _ c.loop-d.invariant (search rules) c.from.ensures refl c.eq.result c.if-held-eq0.false tested c.if-eq.false

pub returns : goal.returns
returns c = ap free_in (searched_all c.args.key_slots.now (same? c.args.line.now c.args.list.now) c.args.slot c.loop-d.d c.loop-d.invariant (search rules))
