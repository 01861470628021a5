-- Rows whose children stand below them: why a row over the last of them is new, and where an item's children stand. Assumes nothing.
use mathlib.Core.Path.{◌≡◌, refl, sym, subst, ◌∙◌}
use mathlib.Core.Logic.{⊎_elim}
use mathlib.Core.Bool.{Bool, true, false, cond, ◌||◌}
use mathlib.Core.List.Memᴰ
use mathlib.Core.List.Memᴰ.{cases_cons as in_cons}
use mathlib.Core.List.Memᴰ.{head as here}
use mathlib.Core.List.Memᴰ.{not-nil}
use mathlib.Core.List.{List, [], ◌∷◌, ◌++◌, Memᴰ as In}
use mathlib.Core.Option.{Option, none, some}
use Prim.Native.Nat.{ℕ, ◌+◌, ◌<◌}
use native.Mathlib.Omega.{arith}
use borrow.Author.Tests.{eqb-true}
use lib.Dec.{eqb}
use lib.ListN.{length}
use Rattle.model.specs.Table.{Row, Lower}
use Rattle.model.specs.Build.{find_row}
use Rattle.model.proofs.Build.{Found, find_ok}
use Rattle.model.proofs.Tab.{length_tab}
use Rattle.document.specs.Rows.{row_in, rows_below}
use Rattle.jsonrows.specs.Signature.{other}
use Rattle.jsonrows.specs.Grammar.{node_row}
use Rattle.jsonrows.specs.State.{key_rows}

-- no row below has the last one as a child
pub over_last : (rows : List Row) → Lower rows → (r : Row) (j : ℕ) → In j r.children → j + 1 ≡ length rows → find_row r rows ≡ none
over_last rows lower r j m e = go (find_row r rows) (find_ok r rows)
  where
    go : (o : Option ℕ) → Found r rows o → o ≡ none
    go none h = refl
    go (some i) (l, q) = let k = lower i l j (subst (λ (z : Row). In j z.children) (sym q) m) in absurd (omega (arith, k, l, e))

-- ---- the children of an item's row are rows

module _ (used : ℕ) where
  abbrev Below : List ℕ → Type 0
  Below js = (j : ℕ) → In j js → j < used

  below_more : {k : ℕ} {js : List ℕ} → k < used → Below js → Below (k ∷ js)
  below_more l h j m = ⊎_elim (λ e. subst (◌< used) (sym e) l) (h j) (in_cons m)

  below_none : Below []
  below_none j m = absurd (not-nil m)

  pub node_below : (symbol : ℕ) {key value rest : ℕ} → (symbol ≡ other → key < used) → value < used → rest < used → (j : ℕ) → In j ((key_rows symbol key ++ value ∷ []) ++ rest ∷ []) → j < used
  node_below symbol {key} {value} {rest} own v r = go (eqb symbol other) refl
    where
      go : (b : Bool) → eqb symbol other ≡ b → Below ((cond b (key ∷ []) [] ++ value ∷ []) ++ rest ∷ [])
      go true e = below_more (own (eqb-true symbol other e)) (below_more v (below_more r below_none))
      go false e = below_more v (below_more r below_none)

-- ---- an item's row over the last of them

-- its value and its rest are children
value_in : (js : List ℕ) (value rest : ℕ) → In value ((js ++ value ∷ []) ++ rest ∷ [])
value_in js value rest = Memᴰ.append_left (rest ∷ []) (Memᴰ.append_right js (here refl))

pub node_new : (cells : List ℕ) (used : ℕ) → Lower (rows_below cells used) → (symbol key value rest : ℕ) → (eqb (value + 1) used || eqb (rest + 1) used) ≡ true → find_row (node_row symbol ((key_rows symbol key ++ value ∷ []) ++ rest ∷ [])) (rows_below cells used) ≡ none
node_new cells used lower symbol key value rest e = go (eqb (value + 1) used) refl e
  where
    as_many : length (rows_below cells used) ≡ used
    as_many = length_tab used (row_in cells)

    go : (b : Bool) → eqb (value + 1) used ≡ b → (b || eqb (rest + 1) used) ≡ true → find_row (node_row symbol ((key_rows symbol key ++ value ∷ []) ++ rest ∷ [])) (rows_below cells used) ≡ none
    go true f g = over_last (rows_below cells used) lower _ value (value_in (key_rows symbol key) value rest) (eqb-true (value + 1) used f ∙ sym as_many)
    go false f g = over_last (rows_below cells used) lower _ rest (Memᴰ.append_right (key_rows symbol key ++ value ∷ []) (here refl)) (eqb-true (rest + 1) used g ∙ sym as_many)
