-- The leaf of a new text is added, or there is no room; it is never there already. Assumes nothing.
use mathlib.Core.Path.{refl, sym, ap, ◌∙◌}
use mathlib.Core.Logic.{⊎_elim}
use Prim.Native.Nat.{ℕ, ◌+◌}
use native.Mathlib.Omega.{arith}
use Rattle.document.specs.Hash.{row_hash}
use Rattle.document.proofs.Probing.{slot_inside}
use Rattle.document.specs.declared.scalar.Scalar.TheVariants.{Name}
use Rattle.jsonrows.specs.Signature.{text_leaf}
use Rattle.jsonrows.specs.Grammar.{leaf_row}
use Rattle.jsonrows.specs.State.{says_refused}
use Rattle.jsonrows.proofs.Holding.{says_by}
use Rattle.jsonrows.proofs.Texting.{probe_text, probed_free}
use Rattle.jsonrows.proofs.TextLeaves.{leaf_known, leaf_room, leaf_added, leaf_full}
use Rattle.jsonrows.proofs.texts.new_text.Goals as goal

pub bounds-tables-k-in-Added : goal.bounds-tables-k-in-Added
bounds-tables-k-in-Added c =
    let f = probed_free (probe_text _ _ _ _ _ _ _ _ c.requires.holds _ _ _ c.requires.new.string _ refl) _ c.requires.new.answer in
    let did = c.add_new.ensures _ c.leaf-w.ensures (c.words_hash.ensures ∙ ap row_hash (sym c.leaf-w.ensures.cells)) c.requires.holds.ready (c.requires.holds.fresh _ (omega arith)) in
    let room = leaf_room _ _ _ _ _ _ _ _ _ c.requires.new.string _ _ c.requires.holds _ f c.requires.behind (ap (λ (n : ℕ). leaf_row text_leaf (Name n)) c.from.ensures) c.leaf-w.ensures.kept _ _ _ did _ c.in-Added.is in
    omega (arith, c.from-k.ensures, room, c.requires.holds.few, c.requires.holds.ready.few)

pub bounds-tables-free : goal.bounds-tables-free
bounds-tables-free c = slot_inside _ _ _ _ (sym c.requires.new.answer)

pub offset_bounds-tables-free : goal.offset_bounds-tables-free
offset_bounds-tables-free c = omega (arith, slot_inside _ _ _ _ (sym c.requires.new.answer))

pub returns-in-Known : goal.returns-in-Known
returns-in-Known c =
    let f = probed_free (probe_text _ _ _ _ _ _ _ _ c.requires.holds _ _ _ c.requires.new.string _ refl) _ c.requires.new.answer in
    let did = c.add_new.ensures _ c.leaf-w.ensures (c.words_hash.ensures ∙ ap row_hash (sym c.leaf-w.ensures.cells)) c.requires.holds.ready (c.requires.holds.fresh _ (omega arith)) in
    ⊎_elim
    (λ k. absurd (leaf_known _ _ _ _ _ _ _ _ _ c.requires.new.string _ _ c.requires.holds _ f c.requires.behind (ap (λ (n : ℕ). leaf_row text_leaf (Name n)) c.from.ensures) c.leaf-w.ensures.kept _ _ _ did k.0 k.1))
    (λ e. says_by (leaf_full _ _ _ _ _ _ _ _ _ c.requires.new.string _ _ c.requires.holds _ f c.requires.behind (ap (λ (n : ℕ). leaf_row text_leaf (Name n)) c.from.ensures) c.leaf-w.ensures.kept _ _ _ did e) (says_refused refl)) c.in-Known.is

pub returns-in-Added : goal.returns-in-Added
returns-in-Added c =
    let f = probed_free (probe_text _ _ _ _ _ _ _ _ c.requires.holds _ _ _ c.requires.new.string _ refl) _ c.requires.new.answer in
    let did = c.add_new.ensures _ c.leaf-w.ensures (c.words_hash.ensures ∙ ap row_hash (sym c.leaf-w.ensures.cells)) c.requires.holds.ready (c.requires.holds.fresh _ (omega arith)) in
    leaf_added _ _ _ _ _ _ _ _ _ c.requires.new.string _ _ c.requires.holds _ f c.requires.behind (ap (λ (n : ℕ). leaf_row text_leaf (Name n)) c.from.ensures) c.leaf-w.ensures.kept _ _ _ did _ c.in-Added.is _ _ _ c.from-k.ensures (ap (λ (n : ℕ). 1024 + n) c.from-k.ensures) c.from-in-Added.ensures
