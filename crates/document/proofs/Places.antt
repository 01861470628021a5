-- Cells and child places of lent rows, as the accessors read them. Assumes nothing.
use mathlib.Core.Path.{◌≡◌, refl, sym, ap, ◌∙◌}
use mathlib.Core.List.{List, [], ◌∷◌}
use Prim.Native.Nat.{ℕ, suc, ◌+◌, ◌/◌, ◌<◌, ◌≤◌}
use native.Mathlib.Numerals.{add-one}
use borrow.Author.Tests.{eq-eqb, ne_eqb}
use lib.ListN.{length, get_or, drop, get_or-eq_default, drop_of_length-le}
use lib.Seq.{drop-cons}
use Rattle.model.specs.Limits.{max_children, unused}
use Rattle.model.specs.Table.{no_row, row_at}
use Rattle.model.proofs.Tab.{tab_at, tab_past, length_tab}
use Rattle.document.specs.Rows.{row_cells, cell_in, used, places_in, row_in, decode_rows}
use Rattle.document.specs.Check.{place_in}

pub rows_length : (cells : List ℕ) → length (decode_rows cells) ≡ length cells / row_cells
rows_length cells = length_tab (length cells / row_cells) (row_in cells)

pub row_at_lem : (cells : List ℕ) (i : ℕ) → i < length cells / row_cells → row_at (decode_rows cells) i ≡ row_in cells i
row_at_lem cells i l = tab_at no_row (length cells / row_cells) (row_in cells) i l

-- an element past the end is the default
pub past : {A : Type 0} (l : List A) (d : A) (a i : ℕ) → a ≡ i → length l ≤ a → d ≡ get_or l i d
past l d a i e h = rw (← e) (sym (get_or-eq_default l d h))

module _ (cells : List ℕ) (i k : ℕ) where
  pub place_cell : (x : ℕ) → k < max_children → x ≡ cell_in cells i (1 + k) → x ≡ place_in cells i k
  unfolding place_in
  place_cell x h e = e ∙ sym (tab_at unused max_children (λ k. cell_in cells i (1 + k)) k h)

  pub place_past : max_children ≤ k → unused ≡ place_in cells i k
  unfolding place_in
  place_past h = sym (tab_past unused max_children (λ k. cell_in cells i (1 + k)) k h)

-- the children from place k on
unfoldable pub rest_in : List ℕ → ℕ → ℕ → List ℕ
rest_in cells i k = used (drop k (places_in cells i))

module _ (cells : List ℕ) (i : ℕ) where
  pub rest_first : (row_in cells i).children ≡ rest_in cells i 0
  unfolding rest_in
  rest_first = refl

  pub rest_last : (k : ℕ) → max_children ≤ k → rest_in cells i k ≡ []
  unfolding rest_in
  rest_last k h = ap used (drop_of_length-le (places_in cells i) h)

  rest_step : (k : ℕ) → k < max_children → rest_in cells i k ≡ used (place_in cells i k ∷ drop (suc k) (places_in cells i))
  unfolding rest_in place_in
  rest_step k h = ap used (drop-cons (places_in cells i) k unused h)

  pub rest_stop : (k x : ℕ) → k < max_children → x ≡ place_in cells i k → x ≡ unused → rest_in cells i k ≡ []
  rest_stop k x h e u = rest_step k h ∙ simp (← e, eq-eqb x unused u)

  pub rest_more : (k x : ℕ) → k < max_children → x ≡ place_in cells i k → (x ≡ unused → ⊥) → rest_in cells i k ≡ x ∷ rest_in cells i (k + 1)
  unfolding rest_in
  rest_more k x h e u = rest_step k h ∙ simp (← e, ne_eqb x unused u, add-one)
