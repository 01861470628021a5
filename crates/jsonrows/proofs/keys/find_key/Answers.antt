-- The slots tried held lines that differ. Assumes nothing.
use mathlib.Core.Path.{refl, ap, ◌∙◌}
use native.Mathlib.Omega.{arith}
use borrow.Author.Rules.{rules}
use Rattle.document.proofs.Searching.{searched_none, searched_free, searched_known, searched_more, searched_all}
use Rattle.jsontext.specs.Strings.{string_at}
use Rattle.jsontext.specs.Decoded.{is_text}
use Rattle.jsonrows.proofs.Keying.{not_listed, listed_below, line_held, find_line}
use Rattle.jsonrows.proofs.keys.find_key.Goals as goal
use Rattle.jsonrows.proofs.keys.find_key.Invariants.{is?}

pub loop-d-init : goal.loop-d-init
loop-d-init c = searched_none c.args.source.now.key_slots.now (is? c.args.source.now.text.now c.args.at c.args.source.now.list.now) c.args.slot

pub returns-then-held-eq0 : goal.returns-then-held-eq0
returns-then-held-eq0 c =
    let free = searched_free c.args.source.now.key_slots.now (is? c.args.source.now.text.now c.args.at c.args.source.now.list.now) c.args.slot c.loop-d.d c.from.result _ c.loop-d.invariant (search rules) c.from.ensures refl c.if-held-eq0.true in
    record { found = find_line c.args.source.now.table (string_at c.args.source.now.text.now c.args.at) c.args.slot _ free; few = not_listed }

pub key_line-line-requires : goal.key_line-line-requires
key_line-line-requires c =
    let below = line_held c.args.source.now.table _ refl c.if-held-eq0.false in
    record { few = omega (arith, below, c.args.source.now.table.few); placed = c.args.source.now.table.stands _ below }

pub returns-then-is_text : goal.returns-then-is_text
returns-then-is_text c =
    let tested = c.is_text.ensures c.args.source.now.lent ∙ ap (is_text (string_at c.args.source.now.text.now c.args.at)) c.key_line-line.ensures in
    let known = searched_known c.args.source.now.key_slots.now (is? c.args.source.now.text.now c.args.at c.args.source.now.list.now) c.args.slot c.loop-d.d c.from.result _ c.loop-d.invariant (search rules) c.from.ensures refl c.is_text.result c.if-held-eq0.false tested c.if-is_text.true in
    record { found = find_line c.args.source.now.table (string_at c.args.source.now.text.now c.args.at) c.args.slot _ known; few = listed_below (line_held c.args.source.now.table _ refl c.if-held-eq0.false) c.args.source.now.table.few }

pub loop-d-preserved : goal.loop-d-preserved
loop-d-preserved c =
    let tested = c.is_text.ensures c.args.source.now.lent ∙ ap (is_text (string_at c.args.source.now.text.now c.args.at)) c.key_line-line.ensures in
    searched_more c.args.source.now.key_slots.now (is? c.args.source.now.text.now c.args.at c.args.source.now.list.now) c.args.slot c.loop-d.d c.from.result _ c.loop-d.invariant (search rules) c.from.ensures refl c.is_text.result c.if-held-eq0.false tested c.if-is_text.false

pub returns : goal.returns
returns c =
    let crowded = searched_all c.args.source.now.key_slots.now (is? c.args.source.now.text.now c.args.at c.args.source.now.list.now) c.args.slot c.loop-d.d c.loop-d.invariant (search rules) in
    record { found = find_line c.args.source.now.table (string_at c.args.source.now.text.now c.args.at) c.args.slot _ crowded; few = not_listed }
