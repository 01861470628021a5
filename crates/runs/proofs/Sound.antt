-- What the set's and the table's check give to the tests of a run: the sound set and table, and the children of a known row. Assumes nothing.
use mathlib.Core.Path.{◌≡◌, sym, ap, ◌∙◌}
use mathlib.Core.Logic.{⊎_elim}
use mathlib.Core.List.{List}
use Prim.Native.Nat.{ℕ, ◌<◌, ◌≤◌}
use native.Mathlib.Omega.{arith}
use borrow.Author.Tests.{le-ltb, eqb-true}
use lib.ListN.{length, get_or, get_or-eq_default}
use Rattle.model.specs.Limits.{max_children, unused}
use Rattle.model.specs.Lists.{tab}
use Rattle.model.specs.Sound.{Sound}
use Rattle.model.specs.Table.{Row, row_at, SoundTable}
use Rattle.model.proofs.Tab.{tab_at, tab_past}
use Rattle.model.proofs.Below.{at}
use Rattle.model.proofs.Rows.{in_get_d}
use Rattle.automaton.specs.Stored.{decode}
use Rattle.automaton.specs.Check.{check_of}
use Rattle.automaton.proofs.Parts.{below_or}
use Rattle.document.specs.Rows.{decode_rows}
use Rattle.document.specs.Check.{row_count, place_in, child?, arity_in, form_check_of, table_check_of, document_check_of}
use Rattle.document.proofs.Places.{row_at_lem, rows_length, place_past}
use Rattle.document.proofs.Refusals.{both_passed}
use Rattle.document.proofs.Form.{Formed, formed, children_are}
use Rattle.document.proofs.Sound.{sound_document}

module _ (set cells : List ℕ) (h : document_check_of set cells ≡ 0) where
  pub sound_set : Sound (decode set)
  sound_set = (sound_document set cells h).0

  pub sound_rows : SoundTable (decode set) (decode_rows cells)
  sound_rows = (sound_document set cells h).1

  form : Formed (decode set) cells
  unfolding table_check_of
  form = formed (decode set) cells (both_passed (form_check_of (decode set) cells) _ (both_passed (check_of set) (table_check_of (decode set) cells) h).1).0

  module _ (r : ℕ) (l : r < length (decode_rows cells)) where
    inside : r < row_count cells
    inside = rw (rows_length cells) at l

    children_places : (row_at (decode_rows cells) r).children ≡ tab (arity_in (decode set) cells r) (place_in cells r)
    children_places = ap (λ (x : Row). x.children) (row_at_lem cells r inside) ∙ children_are (decode set) cells sound_set.few_children form r inside

    place_rest : (k : ℕ) → arity_in (decode set) cells r ≤ k → k < max_children → place_in cells r k ≡ unused
    unfolding child?
    place_rest k m o =
        eqb-true (place_in cells r k) unused
        (rw (le-ltb k (arity_in (decode set) cells r) m) at (at (child? cells r (arity_in (decode set) cells r)) max_children k (form.places r inside) o))

    -- place k of a known row is its child, or unused
    pub place_child : (k : ℕ) → place_in cells r k ≡ get_or (row_at (decode_rows cells) r).children k unused
    place_child k =
        ⊎_elim
        (λ m. sym (tab_at unused (arity_in (decode set) cells r) (place_in cells r) k m))
        (λ m. ⊎_elim (place_rest k m) (λ o. sym (place_past cells r k o)) (below_or k max_children) ∙ sym (tab_past unused (arity_in (decode set) cells r) (place_in cells r) k m))
        (below_or k (arity_in (decode set) cells r))
        ∙ ap (λ (cs : List ℕ). get_or cs k unused) (sym children_places)

    -- it is unused exactly where there is no child k
    pub child_used : (k : ℕ) → k < length (row_at (decode_rows cells) r).children → get_or (row_at (decode_rows cells) r).children k unused < unused
    child_used k m =
        let lower = sound_rows.lower r l _ (in_get_d unused (row_at (decode_rows cells) r).children k m) in
        omega (arith, sound_rows.few_rows)

    pub has_child : (k : ℕ) → (get_or (row_at (decode_rows cells) r).children k unused ≡ unused → ⊥) → k < length (row_at (decode_rows cells) r).children
    has_child k n =
        ⊎_elim (λ m. m) (λ m. absurd (n (get_or-eq_default (row_at (decode_rows cells) r).children unused m))) (below_or k (length (row_at (decode_rows cells) r).children))

    pub no_child : (k : ℕ) → get_or (row_at (decode_rows cells) r).children k unused ≡ unused → length (row_at (decode_rows cells) r).children ≤ k
    no_child k e =
        ⊎_elim (λ m. let z = child_used k m in absurd (omega arith)) (λ m. m) (below_or k (length (row_at (decode_rows cells) r).children))
