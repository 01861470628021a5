-- The text of a row from those of its children; no row's text is longer than the last one's. Assumes nothing.
use mathlib.Core.Path.{◌≡◌, refl, sym, ap, subst, ◌∙◌}
use mathlib.Core.Logic.{◌⊎◌, inl, inr}
use mathlib.Core.List.Memᴰ.{head as here}
use mathlib.Core.List.Memᴰ.{tail as there}
use mathlib.Core.List.{List, [], ◌∷◌, ◌++◌, map, Memᴰ as In}
use Prim.Native.Nat.{ℕ, zero, suc, ◌+◌, ◌-◌, ◌<◌, ◌≤◌}
use native.Mathlib.Nat.{eq-or-lt_of_le}
use native.Mathlib.Omega.{arith}
use lib.Dec.{T}
use lib.ListN.{length, get_or, length-append}
use Rattle.model.specs.Limits.{max_rows, unused}
use Rattle.model.specs.Tree.{Tree, forest}
use Rattle.model.specs.Table.{tree_at, scalar?}
use Rattle.model.proofs.Rows.{tree_eq}
use Rattle.document.specs.Rows.{row_in, decode_rows}
use Rattle.document.specs.Check.{row_count, place_in}
use Rattle.document.proofs.Places.{row_at_lem, rows_length, rest_in, rest_first, rest_stop, rest_more}
use Rattle.spelling.specs.Text.{scalar_text, term_text, behind_text, rest_text}
use Rattle.spelling.specs.Rows.{SoundCells, row_text, list_text, list_length, behind_length, row_length}

-- the children of a node, by their texts
module _ (name : ℕ → List ℕ) (f : ℕ → Tree) where
  rest_list : (cs : List ℕ) → rest_text name (forest (map f cs)) ≡ list_text (λ j. term_text name (f j)) 44 cs
  unfolding rest_text list_text
  rest_list [] = refl
  rest_list (c ∷ cs) = ap (λ l. 44 ∷ term_text name (f c) ++ l) (rest_list cs)

  behind_list : (x : List ℕ) (c : ℕ) (cs : List ℕ) → behind_text name x (forest (map f (c ∷ cs))) ≡ list_text (λ j. term_text name (f j)) 40 (c ∷ cs)
  unfolding behind_text list_text
  behind_list x c cs = ap (λ l. 40 ∷ term_text name (f c) ++ l) (rest_list cs)

-- what stands in the first place tells whether there are children
module _ (cells : List ℕ) (i x : ℕ) (e : x ≡ place_in cells i 0) where
  pub no_children_lem : x ≡ unused → (row_in cells i).children ≡ []
  no_children_lem u = rest_first cells i ∙ rest_stop cells i 0 x (omega arith) e u

  pub some_children : (x ≡ unused → ⊥) → (row_in cells i).children ≡ x ∷ rest_in cells i 1
  some_children u = rest_first cells i ∙ rest_more cells i 0 x (omega arith) e u

module _ (cells : List ℕ) (s : SoundCells cells) where
  pub inside : (i : ℕ) → i < row_count cells → i < length (decode_rows cells)
  inside i l = rw (rows_length cells) l

  pub some_rows : 0 < row_count cells
  some_rows = rw (rows_length cells) at s.table.some_row

  pub few_rows : row_count cells ≤ max_rows
  few_rows = rw (rows_length cells) at s.table.few_rows

  pub sound_scalar : (i : ℕ) → i < row_count cells → T (scalar? (row_in cells i).kind (row_in cells i).payload)
  sound_scalar i l = subst (λ r. T (scalar? r.kind r.payload)) (row_at_lem cells i l) (s.table.each i (inside i l)).scalar

  pub below : (i : ℕ) → i < row_count cells → (j : ℕ) → In j (row_in cells i).children → j < i
  below i l j m = s.table.lower i (inside i l) j (rw (row_at_lem cells i l) m)

  module _ (name : ℕ → List ℕ) where
    abbrev pub behind : ℕ → List ℕ → List ℕ
    behind i cs = behind_text name (scalar_text (row_in cells i).kind (row_in cells i).payload) (forest (map (tree_at (decode_rows cells)) cs))

    module _ (i : ℕ) (l : i < row_count cells) where
      pub row_text_lem : row_text name cells i ≡ name (row_in cells i).symbol ++ behind i (row_in cells i).children
      unfolding row_text term_text
      row_text_lem =
          ap (term_text name) (tree_eq (decode_rows cells) s.table.lower i (inside i l))
          ∙ ap (λ r. name r.symbol ++ behind_text name (scalar_text r.kind r.payload) (forest (map (tree_at (decode_rows cells)) r.children))) (row_at_lem cells i l)

      pub leaf_text : (row_in cells i).children ≡ [] → row_text name cells i ≡ name (row_in cells i).symbol ++ scalar_text (row_in cells i).kind (row_in cells i).payload
      unfolding behind_text
      leaf_text e = row_text_lem ∙ ap (λ cs. name (row_in cells i).symbol ++ behind i cs) e

      pub list_text_lem : {c : ℕ} {cs : List ℕ} → (row_in cells i).children ≡ c ∷ cs → row_text name cells i ≡ name (row_in cells i).symbol ++ list_text (row_text name cells) 40 (row_in cells i).children
      unfolding row_text
      list_text_lem {c} {cs} e =
          row_text_lem
          ∙ ap (λ ds. name (row_in cells i).symbol ++ behind i ds) e
          ∙ ap (λ t. name (row_in cells i).symbol ++ t) (behind_list name (tree_at (decode_rows cells)) (scalar_text (row_in cells i).kind (row_in cells i).payload) c cs)
          ∙ ap (λ ds. name (row_in cells i).symbol ++ list_text (row_text name cells) 40 ds) (sym e)

-- lengths
list_long : (text : ℕ → List ℕ) (lengths : List ℕ) (b : ℕ) (cs : List ℕ) → ((c : ℕ) → In c cs → get_or lengths c 0 ≡ length (text c)) → length (list_text text b cs) ≡ list_length lengths cs
unfolding list_text list_length
list_long text lengths b [] h = refl
list_long text lengths b (c ∷ cs) h =
    let r = list_long text lengths 44 cs (λ d m. h d (there m)) in
    let e = h c (here refl) in
    let a = length-append (text c) (list_text text 44 cs) in
    omega arith

list_part : (text : ℕ → List ℕ) (b c : ℕ) (cs : List ℕ) → In c cs → length (text c) ≤ length (list_text text b cs)
unfolding list_text
list_part text b c [] x' = elim x' [ ]
list_part text b c (d ∷ cs) (here e) = let a = length-append (text d) (list_text text 44 cs) in let q = ap (λ x. length (text x)) e in omega arith
list_part text b c (d ∷ cs) (there m) = let a = length-append (text d) (list_text text 44 cs) in let r = list_part text 44 c cs m in omega arith

module _ (cells : List ℕ) (s : SoundCells cells) (name : ℕ → List ℕ) where
  -- the length of a row by those of lower rows
  pub row_long : (lengths : List ℕ) (i : ℕ) → i < row_count cells → ((j : ℕ) → j < i → get_or lengths j 0 ≡ length (row_text name cells j)) → row_length name lengths cells i ≡ length (row_text name cells i)
  unfolding row_length
  row_long lengths i l h = go (row_in cells i).children refl
    where
      nm : List ℕ
      nm = name (row_in cells i).symbol

      go : (cs : List ℕ) → (row_in cells i).children ≡ cs → length nm + behind_length lengths (row_in cells i) (row_in cells i).children ≡ length (row_text name cells i)
      go [] e =
          ap (λ cs. length nm + behind_length lengths (row_in cells i) cs) e
          ∙ sym (length-append nm (scalar_text (row_in cells i).kind (row_in cells i).payload))
          ∙ ap length (sym (leaf_text cells s name i l e))
      go (c ∷ cs) e =
          ap (λ ds. length nm + behind_length lengths (row_in cells i) ds) e
          ∙ ap (λ ds. length nm + list_length lengths ds) (sym e)
          ∙ ap (λ n. length nm + n) (sym (list_long (row_text name cells) lengths 40 (row_in cells i).children (λ d m. h d (below cells s i l d m))))
          ∙ sym (length-append nm (list_text (row_text name cells) 40 (row_in cells i).children))
          ∙ ap length (sym (list_text_lem cells s name i l e))

  child_short : (i : ℕ) → i < row_count cells → (c : ℕ) → In c (row_in cells i).children → length (row_text name cells c) ≤ length (row_text name cells i)
  child_short i l c m = go (row_in cells i).children refl m
    where
      go : (cs : List ℕ) → (row_in cells i).children ≡ cs → In c cs → length (row_text name cells c) ≤ length (row_text name cells i)
      go [] e k = elim k [ ]
      go (d ∷ ds) e k =
          let p = list_part (row_text name cells) 40 c (row_in cells i).children m in
          let a = length-append (name (row_in cells i).symbol) (list_text (row_text name cells) 40 (row_in cells i).children) in
          let t = ap length (list_text_lem cells s name i l e) in
          omega arith

  -- each row is part of the last one's tree
  last_long : (f i : ℕ) → i < row_count cells → row_count cells ≤ i + f → length (row_text name cells i) ≤ length (row_text name cells (row_count cells - 1))
  last_long zero i l g = absurd (omega arith)
  last_long (suc f) i l g = go (last_long f) (eq-or-lt_of_le {n = suc i} {m = row_count cells} (omega arith))
    where
      go : ((j : ℕ) → j < row_count cells → row_count cells ≤ j + f → length (row_text name cells j) ≤ length (row_text name cells (row_count cells - 1))) → (suc i ≡ row_count cells) ⊎ (suc i < row_count cells) → length (row_text name cells i) ≤ length (row_text name cells (row_count cells - 1))
      go ih (inl e) = let z : i ≡ row_count cells - 1 = omega arith in let q = ap (λ k. length (row_text name cells k)) z in omega arith
      go ih (inr k) =
          let (j, above, in_table, m) = s.table.used i (rw (rows_length cells) k) in
          let lj : j < row_count cells = rw (rows_length cells) at in_table in
          let a = child_short j lj i (rw (row_at_lem cells j lj) at m) in
          let b = ih j lj (omega arith) in
          omega arith

  pub no_longer : (i : ℕ) → i < row_count cells → length (row_text name cells i) ≤ length (row_text name cells (row_count cells - 1))
  no_longer i l = last_long (row_count cells) i l (omega arith)
