-- The cells of a table that passed the check are those of the rows that they hold, so that the same rows are the same cells. Assumes nothing.
use mathlib.Core.Path.{◌≡◌, refl, sym, ap, subst, ◌∙◌}
use mathlib.Core.Bool.{Bool, true, false}
use mathlib.Core.List.{List, [], ◌∷◌}
use Prim.Native.Nat.{ℕ, zero, suc, ◌+◌, ◌*◌, ◌/◌, ◌%◌, ◌<◌, ◌≤◌}
use native.Mathlib.Omega.{arith}
use borrow.Author.Tests.{ltb-true, ltb-false, eqb-true}
use lib.Dec.{ltb}
use lib.ListN.{length, get_or}
use lib.Seq.{ext_get_or}
use Rattle.model.specs.Limits.{max_children, unused}
use Rattle.model.specs.Lists.{tab}
use Rattle.model.specs.Automaton.{Automaton, arity_of}
use Rattle.model.proofs.Below.{at}
use Rattle.model.proofs.Tab.{tab_at, tab_past}
use Rattle.document.specs.Rows.{row_cells, cell_in, join_cells, split_cells, payload_in, row_in, decode_rows, encode_row, encode_rows}
use Rattle.document.specs.Check.{row_count, place_in, place?, child?, arity_in, form_check_of, table_check_of}
use Rattle.document.proofs.Places.{row_at_lem, rows_length, place_cell}
use Rattle.document.proofs.Refusals.{both_passed}
use Rattle.document.proofs.Form.{Formed, formed, children_are}
use Rattle.document.proofs.Encoding.{place_cell as encoded_place, length_encode, encode_cell}

-- four cells of a number, joined and split again
split_join : (a b c d : ℕ) → a < 65536 → b < 65536 → c < 65536 → d < 65536 → split_cells 4 (join_cells (a ∷ b ∷ c ∷ d ∷ [])) ≡ a ∷ b ∷ c ∷ d ∷ []
split_join a b c d la lb lc ld =
    let x₃ = d + 65536 * 0 in
    let x₂ = c + 65536 * x₃ in
    let x₁ = b + 65536 * x₂ in
    let x₀ = a + 65536 * x₁ in
    let e₁ : x₀ / 65536 ≡ x₁ = omega arith in
    let e₂ : x₁ / 65536 ≡ x₂ = omega arith in
    let e₃ : x₂ / 65536 ≡ x₃ = omega arith in
    let r₀ : x₀ % 65536 ≡ a = omega arith in
    let r₁ : x₀ / 65536 % 65536 ≡ b = ap (λ x. x % 65536) e₁ ∙ (let z : x₁ % 65536 ≡ b = omega arith in z) in
    let f₂ : x₀ / 65536 / 65536 ≡ x₂ = ap (λ x. x / 65536) e₁ ∙ e₂ in
    let r₂ : x₀ / 65536 / 65536 % 65536 ≡ c = ap (λ x. x % 65536) f₂ ∙ (let z : x₂ % 65536 ≡ c = omega arith in z) in
    let f₃ : x₀ / 65536 / 65536 / 65536 ≡ x₃ = ap (λ x. x / 65536) f₂ ∙ e₃ in
    let r₃ : x₀ / 65536 / 65536 / 65536 % 65536 ≡ d = ap (λ x. x % 65536) f₃ ∙ (let z : x₃ % 65536 ≡ d = omega arith in z) in
    λ i. r₀ i ∷ r₁ i ∷ r₂ i ∷ r₃ i ∷ []

module _ (A : Automaton) (few : (s : ℕ) → arity_of A s ≤ max_children) (cells : List ℕ) (passes : table_check_of A cells ≡ 0) (small : (j : ℕ) → get_or cells j 0 < 65536) where
  form : Formed A cells
  unfolding table_check_of
  form = formed A cells (both_passed (form_check_of A cells) _ passes).0

  small_cell : (i k : ℕ) → cell_in cells i k < 65536
  unfolding cell_in
  small_cell i k = small (i * row_cells + k)

  module _ (i : ℕ) (l : i < row_count cells) where
    tested : (k : ℕ) → k < max_children → place? (ltb k (arity_in A cells i)) i (place_in cells i k) ≡ true
    unfolding child?
    tested k m = at (child? cells i (arity_in A cells i)) max_children k (form.places i l) m

    -- a place is a child, or unused
    place_back : (k : ℕ) → k < max_children → get_or (row_in cells i).children k unused ≡ place_in cells i k
    place_back k m = ap (λ cs. get_or cs k unused) (children_are A cells few form i l) ∙ go (ltb k (arity_in A cells i)) refl
      where
        go : (b : Bool) → ltb k (arity_in A cells i) ≡ b → get_or (tab (arity_in A cells i) (place_in cells i)) k unused ≡ place_in cells i k
        go true e = tab_at unused (arity_in A cells i) (place_in cells i) k (ltb-true k (arity_in A cells i) e)
        go false e =
            tab_past unused (arity_in A cells i) (place_in cells i) k (ltb-false k (arity_in A cells i) e)
            ∙ sym (eqb-true (place_in cells i k) unused (subst (λ x. place? x i (place_in cells i k) ≡ true) e (tested k m)))

    child_cell : (k : ℕ) → k < max_children → get_or (encode_row (row_in cells i)) (suc k) 0 ≡ cell_in cells i (1 + k)
    child_cell k m = encoded_place (row_in cells i) k m ∙ place_back k m ∙ sym (place_cell cells i k (cell_in cells i (1 + k)) m refl)

    payload_back : split_cells 4 (payload_in cells i) ≡ cell_in cells i 6 ∷ cell_in cells i 7 ∷ cell_in cells i 8 ∷ cell_in cells i 9 ∷ []
    payload_back = split_join (cell_in cells i 6) (cell_in cells i 7) (cell_in cells i 8) (cell_in cells i 9) (small_cell i 6) (small_cell i 7) (small_cell i 8) (small_cell i 9)

    row_cell : (k : ℕ) → k < row_cells → get_or (encode_row (row_in cells i)) k 0 ≡ cell_in cells i k
    row_cell zero m = refl
    row_cell (suc zero) m = child_cell 0 (omega arith)
    row_cell (suc (suc zero)) m = child_cell 1 (omega arith)
    row_cell (suc (suc (suc zero))) m = child_cell 2 (omega arith)
    row_cell (suc (suc (suc (suc zero)))) m = child_cell 3 (omega arith)
    row_cell (suc (suc (suc (suc (suc zero))))) m = refl
    row_cell (suc (suc (suc (suc (suc (suc zero)))))) m = ap (λ cs. get_or cs 0 0) payload_back
    row_cell (suc (suc (suc (suc (suc (suc (suc zero))))))) m = ap (λ cs. get_or cs 1 0) payload_back
    row_cell (suc (suc (suc (suc (suc (suc (suc (suc zero)))))))) m = ap (λ cs. get_or cs 2 0) payload_back
    row_cell (suc (suc (suc (suc (suc (suc (suc (suc (suc zero))))))))) m = ap (λ cs. get_or cs 3 0) payload_back
    row_cell (suc (suc (suc (suc (suc (suc (suc (suc (suc (suc k)))))))))) m = absurd (omega arith)

  whole : (j i k : ℕ) → j ≡ i * row_cells + k → i < length (decode_rows cells) → k < row_cells → get_or (encode_rows (decode_rows cells)) j 0 ≡ get_or cells j 0
  unfolding cell_in
  whole j i k e l m =
      let r : i < row_count cells = rw (rows_length cells) at l in
      ap (λ x. get_or (encode_rows (decode_rows cells)) x 0) e
      ∙ encode_cell (decode_rows cells) i k l m
      ∙ ap (λ r. get_or (encode_row r) k 0) (row_at_lem cells i r)
      ∙ row_cell i r k m
      ∙ ap (λ x. get_or cells x 0) (sym e)

  pub same_length : length (decode_rows cells) * row_cells ≡ length cells
  same_length = let n = rows_length cells in let w = form.whole in omega arith

  pub same_cells : encode_rows (decode_rows cells) ≡ cells
  same_cells = ext_get_or 0 (encode_rows (decode_rows cells)) cells (length_encode (decode_rows cells) ∙ same_length) (λ j l. each j (subst (λ n. j < n) (length_encode (decode_rows cells)) l))
    where
      each : (j : ℕ) → j < length (decode_rows cells) * row_cells → get_or (encode_rows (decode_rows cells)) j 0 ≡ get_or cells j 0
      each j l = whole j (j / row_cells) (j % row_cells) (omega arith) (omega arith) (omega arith)
