use mathlib.Core.Path.{◌≡◌, refl, sym, ap, ◌∙◌}
use mathlib.Core.Bool.{true}
use native.Mathlib.Omega.{arith}
use borrow.Author.Rules.{rules}
use lib.ListN.{get_or}
use Rattle.std.specs.Prelude.{Result, Err}
use Rattle.base.specs.declared.refusal.TextRefusal.{TextRefusal}
use Rattle.term.specs.declared.reader.TermEnd.{TermEnd}
use Rattle.names.specs.Names.{letter?, find_in}
use Rattle.names.specs.Table.{name_in}
use Rattle.term.specs.Grammar.{after_args}
use Rattle.term.specs.State.{setting_of, named_of}
use Rattle.base.proofs.Bytes.{byte_inside}
use Rattle.term.proofs.Ending.{says_by}
use Rattle.term.proofs.Reading.{no_letter, too_deep, term_unnamed, term_leaf, term_args}
use Rattle.term.proofs.Listing.{list_start, list_refused, list_ready, list_ahead, list_held, list_last, list_other, list_more, says_bare}
use Rattle.term.proofs.Meaning.{term_ahead, term_ends}
use Rattle.term.proofs.reader.+arguments_term.Goals as goal

pub arguments-loop-child-init : goal.arguments-loop-child-init
arguments-loop-child-init t c = (
  list_start _ _ _ _ _ _ _ _ _ _ _ c.no_children-fields.ensures refl c.requires,
  refl,
  ap (λ f. f.symbol) c.no_children-fields.ensures,
  ap (λ f. f.scalar) c.no_children-fields.ensures,
)

pub arguments-term-requires : goal.arguments-term-requires
arguments-term-requires t c = (omega (arith, c.decreases), c.loop-child.invariant.0.ready)

pub arguments-returns-in_err-child : goal.arguments-returns-in_err-child
arguments-returns-in_err-child t c =
    let why = c.in_err-child.field-0.0 in
    let is : ◌≡◌ {A = Result TermEnd TextRefusal} c.from_residual.result (Err why) = search rules in
    says_by _ _ _ _
    (ap (after_args (setting_of c.args.source.now.set.now c.args.source.now.names.now c.args.source.now.symbols c.args.source.now.limit) c.args.first c.args.symbol)
    (list_refused _ _ _ _ _ (term_ends _ _ _) (term_ahead _ _ _ _ c.args.source.now.counted _ _) _ _ _ _ _ c.loop-child.fields c.loop-child.invariant.0 _ _ _ c.term.ensures why c.in_err-child.was))
    (why, is, refl, refl)

pub arguments-overflow_add-count : goal.arguments-overflow_add-count
arguments-overflow_add-count t c =
    omega (
      arith,
      c.loop-child.invariant.0.few,
      list_ahead _ _ _ _ _ (term_ends _ _ _) (term_ahead _ _ _ _ c.args.source.now.counted _ _) _ _ _ _ _ c.loop-child.fields c.loop-child.invariant.0 _ _ _ c.term.ensures _ c.in_ok-child.was,
    )

pub arguments-overflow_add-child : goal.arguments-overflow_add-child
arguments-overflow_add-child t c = omega (arith, byte_inside c.args.source.now.text.now c.in_ok-child.child.next c.byte_at-b.result c.byte_at-b.ensures (omega (arith, c.if-b-eq41.true)))

pub arguments-end_term-requires : goal.arguments-end_term-requires
arguments-end_term-requires t c = list_ready _ _ _ _ _ (term_ends _ _ _) (term_ahead _ _ _ _ c.args.source.now.counted _ _) _ _ _ _ _ c.loop-child.fields c.loop-child.invariant.0 _ _ _ c.term.ensures _ c.in_ok-child.was

pub arguments-returns-then-b-eq41 : goal.arguments-returns-then-b-eq41
arguments-returns-then-b-eq41 t c =
    says_by _ _ _ _
    (ap (after_args (setting_of c.args.source.now.set.now c.args.source.now.names.now c.args.source.now.symbols c.args.source.now.limit) c.args.first c.args.symbol)
    (list_last _ _ _ _ _ (term_ends _ _ _) (term_ahead _ _ _ _ c.args.source.now.counted _ _) _ _ _ _ _ c.loop-child.fields c.loop-child.invariant.0 _ _ _ c.term.ensures _ c.in_ok-child.was
    (sym c.byte_at-b.ensures ∙ c.if-b-eq41.true)))
    (says_bare _ _ _ _ _ _ _ _ _ _ c.with_child-fields.result (ap (λ f. f.symbol) c.with_child-fields.ensures ∙ c.loop-child.invariant.2) (ap (λ f. f.scalar) c.with_child-fields.ensures ∙ c.loop-child.invariant.3)
    (c.end_term.ensures _
    (list_held _ _ _ _ _ (term_ends _ _ _) (term_ahead _ _ _ _ c.args.source.now.counted _ _) _ _ _ _ _ c.loop-child.fields c.loop-child.invariant.0 _ _ _ c.term.ensures _ c.in_ok-child.was _ c.with_child-fields.ensures)))

pub arguments-returns-then-b-ne44 : goal.arguments-returns-then-b-ne44
arguments-returns-then-b-ne44 t c =
    says_by _ _ _ _
    (ap (after_args (setting_of c.args.source.now.set.now c.args.source.now.names.now c.args.source.now.symbols c.args.source.now.limit) c.args.first c.args.symbol)
    (list_other _ _ _ _ _ (term_ends _ _ _) (term_ahead _ _ _ _ c.args.source.now.counted _ _) _ _ _ _ _ c.loop-child.fields c.loop-child.invariant.0 _ _ _ c.term.ensures _ c.in_ok-child.was
    (λ e. c.if-b-ne44.true (c.byte_at-b.ensures ∙ e)) (λ e. c.if-b-eq41.false (c.byte_at-b.ensures ∙ e))))
    (_, c.refused.ensures, refl, refl)

pub arguments-overflow_add-at : goal.arguments-overflow_add-at
arguments-overflow_add-at t c = omega (arith, byte_inside c.args.source.now.text.now c.in_ok-child.child.next c.byte_at-b.result c.byte_at-b.ensures (omega (arith, c.if-b-ne44.false)))

pub arguments-loop-child-smaller : goal.arguments-loop-child-smaller
arguments-loop-child-smaller t c =
    omega (
      arith,
      list_ahead _ _ _ _ _ (term_ends _ _ _) (term_ahead _ _ _ _ c.args.source.now.counted _ _) _ _ _ _ _ c.loop-child.fields c.loop-child.invariant.0 _ _ _ c.term.ensures _ c.in_ok-child.was,
    )

pub arguments-loop-child-preserved : goal.arguments-loop-child-preserved
arguments-loop-child-preserved t c = (
  list_more _ _ _ _ _ (term_ends _ _ _) (term_ahead _ _ _ _ c.args.source.now.counted _ _) _ _ _ _ _ c.loop-child.fields c.loop-child.invariant.0 _ _ _ c.term.ensures _ c.in_ok-child.was _ c.with_child-fields.ensures
      (sym c.byte_at-b.ensures ∙ c.if-b-ne44.false),
  search rules,
  ap (λ f. f.symbol) c.with_child-fields.ensures ∙ c.loop-child.invariant.2,
  ap (λ f. f.scalar) c.with_child-fields.ensures ∙ c.loop-child.invariant.3,
)

pub term-returns-then-not-is_letter : goal.term-returns-then-not-is_letter
term-returns-then-not-is_letter t c =
    says_by _ _ _ _
    (no_letter _ _ _ _ _ (ap letter? (sym c.byte_at.ensures) ∙ sym (c.is_letter.ensures.compared c.args.source.now.lent) ∙ c.if-not-is_letter.true))
    (_, c.refused.ensures, refl, refl)

pub term-returns-then-level-eq0 : goal.term-returns-then-level-eq0
term-returns-then-level-eq0 t c = says_by _ _ _ _ (too_deep _ _ _ _ (let h : letter? (get_or c.args.source.now.text.now c.args.at 0) ≡ true = ap letter? (sym c.byte_at.ensures) ∙ sym (c.is_letter.ensures.compared c.args.source.now.lent) ∙ c.if-not-is_letter.false in h) _ c.if-level-eq0.true) (_, c.refused-then-level-eq0.ensures, refl, refl)

pub term-symbol_at-requires : goal.term-symbol_at-requires
term-symbol_at-requires t c = let h : letter? (get_or c.args.source.now.text.now c.args.at 0) ≡ true = ap letter? (sym c.byte_at.ensures) ∙ sym (c.is_letter.ensures.compared c.args.source.now.lent) ∙ c.if-not-is_letter.false in h

pub term-returns-then-byte_at-ne40 : goal.term-returns-then-byte_at-ne40
term-returns-then-byte_at-ne40 t c =
    says_by _ _ _ _
    (term_leaf _ _ _ _ (let h : letter? (get_or c.args.source.now.text.now c.args.at 0) ≡ true = ap letter? (sym c.byte_at.ensures) ∙ sym (c.is_letter.ensures.compared c.args.source.now.lent) ∙ c.if-not-is_letter.false in h) _ _ (sym c.symbol_at.ensures ∙ ap named_of c.in_ok-s.was) _ c.if-level-eq0.false (λ e. c.if-byte_at-ne40.true (c.byte_at-2.ensures ∙ e)))
    (c.leaf.ensures (find_in c.args.source.now.symbols (name_in c.args.source.now.names.now)))

pub term-overflow_add-end : goal.term-overflow_add-end
term-overflow_add-end t c = omega (arith, byte_inside c.args.source.now.text.now c.in_ok-s.end c.byte_at-2.result c.byte_at-2.ensures (omega (arith, c.if-byte_at-ne40.false)))

pub term-arguments-requires : goal.term-arguments-requires
term-arguments-requires t c = (omega (arith, c.decreases, c.if-level-eq0.false), c.requires)

pub term-returns-in_err-s : goal.term-returns-in_err-s
term-returns-in_err-s t c =
    let why = c.in_err-s.field-0.0 in
    let is : ◌≡◌ {A = Result TermEnd TextRefusal} c.from_residual.result (Err why) = search rules in
    says_by _ _ _ _
    (term_unnamed _ _ _ _ (let h : letter? (get_or c.args.source.now.text.now c.args.at 0) ≡ true = ap letter? (sym c.byte_at.ensures) ∙ sym (c.is_letter.ensures.compared c.args.source.now.lent) ∙ c.if-not-is_letter.false in h) _ _ _ c.if-level-eq0.false (sym c.symbol_at.ensures ∙ ap named_of c.in_err-s.was))
    (why, is, refl, refl)

pub term-returns : goal.term-returns
term-returns t c =
    says_by _ _ _ _
    (term_args _ _ _ _ (let h : letter? (get_or c.args.source.now.text.now c.args.at 0) ≡ true = ap letter? (sym c.byte_at.ensures) ∙ sym (c.is_letter.ensures.compared c.args.source.now.lent) ∙ c.if-not-is_letter.false in h) _ _ (sym c.symbol_at.ensures ∙ ap named_of c.in_ok-s.was) _ c.if-level-eq0.false (sym c.byte_at-2.ensures ∙ c.if-byte_at-ne40.false))
    c.arguments.ensures
