-- The level falls from a value to the items in it, and from one item to the next; what each says of its part is said of the whole. Assumes nothing.
use mathlib.Core.Path.{refl, sym, ◌∙◌}
use native.Mathlib.Omega.{arith}
use Rattle.std.proofs.lemmas.Result.{err_from_is_err_and}
use lib.ListN.{length-set}
use Rattle.jsonrows.specs.declared.tables.Item.{Item}
use Rattle.names.specs.Lines.{lines}
use Rattle.jsonrows.specs.Grammar.{refused}
use Rattle.jsonrows.specs.State.{built_of, built_in, says_refused}
use Rattle.jsonrows.proofs.Holding.{says_as, says_by, said, said_no}
use Rattle.jsonrows.proofs.Walking.{value_deep}
use Rattle.jsonrows.proofs.CycleWays.{kept_back, no_object}
use Rattle.jsonrows.proofs.Framing.{same_from, same_self, frame_set}
use Rattle.jsonrows.proofs.ItemLoop.{headed, headed_no, walk_start, walk_many, walk_kept, walk_kept_value, walk_above, walk_above_frame, walk_no_key, walk_refused, walk_alone, walk_since, walk_framed, walk_last, walk_deep, walk_more, open_empty, open_items, open_none}
use Rattle.jsonrows.proofs.reader.+items_value.Goals as goal

pub items-loop-key-init : goal.items-loop-key-init
items-loop-key-init t c = walk_start _ _ (record { keys = lines c.args.source.now.list.now; limit = c.args.source.now.limit }) _ _ _ _ _ c.requires.holds (λ a. let r = c.requires.below a in omega (arith, r)) c.args.source.now.table.few

pub items-head-requires : goal.items-head-requires
items-head-requires t c = record { holds = c.loop-key.invariant.holds; below = λ q. let r = c.requires.below (walk_many c.loop-key.invariant c.requires.single q) in (c.loop-key.invariant.order, omega (arith, r)) }

pub items-returns-in_err-key : goal.items-returns-in_err-key
items-returns-in_err-key t c = record { says = let p = err_from_is_err_and c.from_residual.result c.from_residual.ensures.1 in rw (p.1, p.2) (walk_no_key c.loop-key.invariant c.requires.single (headed_no (c.in_err-key.ensures.says c.loop-key.invariant.seen c.loop-key.invariant.flagged c.loop-key.invariant.known) refl)); kept = walk_kept c.loop-key.invariant _ c.in_err-key.ensures.kept; above = same_from _ _ (omega arith) c.loop-key.invariant.above }

pub items-value-requires : goal.items-value-requires
items-value-requires t c = (omega (arith, c.decreases, c.loop-key.invariant.order), ((headed (c.in_ok-key.ensures.says c.loop-key.invariant.seen c.loop-key.invariant.flagged c.loop-key.invariant.known) refl).holds, omega (arith, c.loop-key.invariant.order, c.requires.bounds)))

pub items-returns-in_err-part : goal.items-returns-in_err-part
items-returns-in_err-part t c = record { says = let p = err_from_is_err_and c.from_residual-in_err-part.result c.from_residual-in_err-part.ensures.1 in rw (p.1, p.2) (walk_refused c.loop-key.invariant c.requires.single (headed (c.in_ok-key.ensures.says c.loop-key.invariant.seen c.loop-key.invariant.flagged c.loop-key.invariant.known) refl) (said_no c.in_err-part.ensures.says refl)); kept = walk_kept_value c.loop-key.invariant _ _ c.in_err-part.ensures.kept c.in_ok-key.ensures.kept; above = same_from _ _ (omega arith) (walk_above c.loop-key.invariant c.in_err-part.ensures.above) }

pub items-returns-then-alone : goal.items-returns-then-alone
items-returns-then-alone t c = record { says = walk_alone c.loop-key.invariant c.requires.single (headed (c.in_ok-key.ensures.says c.loop-key.invariant.seen c.loop-key.invariant.flagged c.loop-key.invariant.known) refl) (said c.in_ok-part.ensures.says refl) c.if-alone.true refl c.in_ok-part.ensures.says; kept = walk_kept_value c.loop-key.invariant _ _ c.in_ok-part.ensures.kept c.in_ok-key.ensures.kept; above = same_from _ _ (omega arith) (walk_above c.loop-key.invariant c.in_ok-part.ensures.above) }

pub items-close_items-requires : goal.items-close_items-requires
items-close_items-requires t c = record { holds = (said c.in_ok-part.ensures.says refl).holds; framed = walk_framed c.loop-key.invariant c.requires.single (headed (c.in_ok-key.ensures.says c.loop-key.invariant.seen c.loop-key.invariant.flagged c.loop-key.invariant.known) refl) (said c.in_ok-part.ensures.says refl) (λ a. no_object (sym c.if-alone.false ∙ a)) c.in_ok-part.ensures.above (frame_set _ _ _ (let r = c.requires.below c.if-alone.false in omega (arith, c.loop-key.invariant.order, r))) _ (c.space_end-e.ensures c.args.source.now.lent) (omega (arith, length-set {A = Item})) }

pub items-returns-then-byte_at-ne44 : goal.items-returns-then-byte_at-ne44
items-returns-then-byte_at-ne44 t c = record { says = says_by (walk_last c.loop-key.invariant c.requires.single (headed (c.in_ok-key.ensures.says c.loop-key.invariant.seen c.loop-key.invariant.flagged c.loop-key.invariant.known) refl) (said c.in_ok-part.ensures.says refl) (λ a. no_object (sym c.if-alone.false ∙ a)) c.in_ok-part.ensures.above (frame_set _ _ _ (let r = c.requires.below c.if-alone.false in omega (arith, c.loop-key.invariant.order, r))) _ (c.space_end-e.ensures c.args.source.now.lent) (λ q. c.if-byte_at-ne44.true (c.byte_at.ensures ∙ q)) _ _ refl refl) (walk_since c.loop-key.invariant c.requires.single (headed (c.in_ok-key.ensures.says c.loop-key.invariant.seen c.loop-key.invariant.flagged c.loop-key.invariant.known) refl) (said c.in_ok-part.ensures.says refl) c.close_items.ensures); kept = walk_kept_value c.loop-key.invariant _ _ c.in_ok-part.ensures.kept c.in_ok-key.ensures.kept; above = same_from _ _ (omega arith) (walk_above_frame c.loop-key.invariant c.in_ok-part.ensures.above (frame_set _ _ _ (let r = c.requires.below c.if-alone.false in omega (arith, c.loop-key.invariant.order, r)))) }

pub items-returns-then-l-eq0 : goal.items-returns-then-l-eq0
items-returns-then-l-eq0 t c = record { says = walk_deep c.loop-key.invariant c.requires.single (headed (c.in_ok-key.ensures.says c.loop-key.invariant.seen c.loop-key.invariant.flagged c.loop-key.invariant.known) refl) (said c.in_ok-part.ensures.says refl) (λ a. no_object (sym c.if-alone.false ∙ a)) c.in_ok-part.ensures.above (frame_set _ _ _ (let r = c.requires.below c.if-alone.false in omega (arith, c.loop-key.invariant.order, r))) _ (c.space_end-e.ensures c.args.source.now.lent) (sym c.byte_at.ensures ∙ c.if-byte_at-ne44.false) _ (c.space_end-i.ensures c.args.source.now.lent) c.if-l-eq0.true; kept = walk_kept_value c.loop-key.invariant _ _ c.in_ok-part.ensures.kept c.in_ok-key.ensures.kept; above = same_from _ _ (omega arith) (walk_above_frame c.loop-key.invariant c.in_ok-part.ensures.above (frame_set _ _ _ (let r = c.requires.below c.if-alone.false in omega (arith, c.loop-key.invariant.order, r)))) }

pub items-loop-key-preserved : goal.items-loop-key-preserved
items-loop-key-preserved t c = walk_more c.loop-key.invariant c.requires.single (headed (c.in_ok-key.ensures.says c.loop-key.invariant.seen c.loop-key.invariant.flagged c.loop-key.invariant.known) refl) (said c.in_ok-part.ensures.says refl) (λ a. no_object (sym c.if-alone.false ∙ a)) c.in_ok-part.ensures.above (frame_set _ _ _ (let r = c.requires.below c.if-alone.false in omega (arith, c.loop-key.invariant.order, r))) _ (c.space_end-e.ensures c.args.source.now.lent) (sym c.byte_at.ensures ∙ c.if-byte_at-ne44.false) _ (c.space_end-i.ensures c.args.source.now.lent) c.if-l-eq0.false c.in_ok-part.ensures.kept c.in_ok-key.ensures.kept (omega (arith, length-set {A = Item}))

pub value-returns-then-level-eq0 : goal.value-returns-then-level-eq0
value-returns-then-level-eq0 t c = record { says = says_by (value_deep (record { keys = lines c.args.source.now.list.now; limit = c.args.source.now.limit }) _ _ _ _ c.if-level-eq0.true ∙ (λ i. refused (sym c.past_last.ensures.0 i) (sym c.past_last.ensures.1 i))) (says_refused refl); kept = refl; above = same_self }

pub value-returns-then-byte_at-mark : goal.value-returns-then-byte_at-mark
value-returns-then-byte_at-mark t c = record { says = says_by (open_empty (record { keys = lines c.args.source.now.list.now; limit = c.args.source.now.limit }) _ _ (built_of c.args.source.now.text.now c.args.tables.now c.args.counts) _ c.if-level-eq0.false c.byte_at-b.result c.byte_at-b.ensures c.if-b.true _ (c.space_end-i.ensures c.args.source.now.lent) _ _ refl refl (sym c.byte_at.ensures ∙ c.if-byte_at-mark.true ∙ c.mark.ensures.0)) c.close.ensures; kept = refl; above = same_self }

pub value-returns-then-b : goal.value-returns-then-b
value-returns-then-b t c = record { says = says_by (open_items (record { keys = lines c.args.source.now.list.now; limit = c.args.source.now.limit }) _ _ (built_in c.args.source.now.text.now c.args.tables.now.rows c.args.tables.now.starts c.args.counts.used c.args.counts.texts) _ c.if-level-eq0.false c.byte_at-b.result c.byte_at-b.ensures c.if-b.true _ (c.space_end-i.ensures c.args.source.now.lent) _ c.mark.ensures.0 (λ z. c.if-byte_at-mark.false (c.byte_at.ensures ∙ z))) (says_as (sym c.unpacked.ensures) c.items.ensures.says); kept = kept_back _ c.if-level-eq0.false _ _ c.items.ensures.kept; above = same_from _ _ (omega (arith, c.if-level-eq0.false)) c.items.ensures.above }

pub value-returns : goal.value-returns
value-returns t c = record { says = says_by (open_none (record { keys = lines c.args.source.now.list.now; limit = c.args.source.now.limit }) _ _ (built_in c.args.source.now.text.now c.args.tables.now.rows c.args.tables.now.starts c.args.counts.used c.args.counts.texts) _ c.if-level-eq0.false c.byte_at-b.result c.byte_at-b.ensures c.if-b.false) c.plain_value.ensures; kept = refl; above = same_self }
