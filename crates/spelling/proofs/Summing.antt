-- The length of a table's text, sum by sum: what the loops know at their heads. Assumes nothing.
use mathlib.Core.Path.{◌≡◌, refl, sym, ap, ◌∙◌}
use mathlib.Core.List.{List, []}
use Prim.Native.Nat.{ℕ, ◌+◌, ◌-◌, ◌<◌, ◌≤◌}
use native.Mathlib.Omega.{arith}
use borrow.Author.Count.{below_more}
use borrow.Author.Rules.{rules}
use borrow.Author.Tests.{le-leb, lt-leb, leb-true, leb-false}
use lib.Dec.{leb}
use lib.ListN.{length, get_or, set, replicate, length-set, length-replicate}
use lib.Seq.{get_or-set_same, get_or-set_other}
use mathlib.Core.Bool.{Bool, true, false, cond}
use Rattle.model.specs.Limits.{max_children, max_rows, unused}
use Rattle.document.specs.Rows.{row_in}
use Rattle.document.specs.Check.{row_count, place_in}
use Rattle.document.proofs.Places.{place_past, rest_in, rest_first, rest_last, rest_stop, rest_more}
use Rattle.std.specs.Prelude.{Option, Some, None}
use Rattle.spelling.specs.declared.piece.Piece.{Piece}
use Rattle.spelling.specs.Text.{scalar_text}
use Rattle.spelling.specs.Rows.{SoundCells, row_text, list_length, behind_length, row_length, within}
use Rattle.spelling.specs.Parts.{piece_bytes, Holds}
use Rattle.spelling.proofs.Texts.{no_children_lem, some_children, some_rows, few_rows, row_long, no_longer}

-- a length and the space
module _ (space n : ℕ) where
  pub fits : n ≤ space → Some n ≡ within space n
  unfolding within
  fits l = rw (le-leb _ _ l)

  pub over : space < n → None ≡ within space n
  unfolding within
  over l = rw (lt-leb _ _ l)

  pub is_over : (r : Option ℕ) → r ≡ within space n → r ≡ None → space < n
  unfolding within
  is_over r e f = go (leb n space) refl (sym e ∙ f)
    where
      use_false : Some n ≡ None → ⊥
      use_false g = let z : ◌≡◌ {A = ℕ} 0 1 = cc in omega arith

      go : (b : Bool) → leb n space ≡ b → cond b (Some n) None ≡ None → space < n
      go true q g = absurd (use_false g)
      go false q g = leb-false n space q

  pub is_fits : (r : Option ℕ) (m : ℕ) → r ≡ within space n → r ≡ Some m → (m ≡ n) × (n ≤ space)
  unfolding within
  is_fits r m e f = go (leb n space) refl (sym e ∙ f)
    where
      go : (b : Bool) → leb n space ≡ b → cond b (Some n) None ≡ Some m → (m ≡ n) × (n ≤ space)
      go true q g = (cc, leb-true n space q)
      go false q g = let z : ◌≡◌ {A = ℕ} 0 1 = cc in absurd (omega arith)

-- a place in use is one of four
pub place_in_use : (cells : List ℕ) (i k x : ℕ) → x ≡ place_in cells i k → (x ≡ unused → ⊥) → k < max_children
place_in_use cells i k x e u = go (leb max_children k) refl
  where
    go : (b : Bool) → leb max_children k ≡ b → k < max_children
    go true q = absurd (u (e ∙ sym (place_past cells i k (leb-true max_children k q))))
    go false q = leb-false max_children k q

pub rest_none : (cells : List ℕ) (i k x : ℕ) → x ≡ place_in cells i k → x ≡ unused → rest_in cells i k ≡ []
rest_none cells i k x e u = go (leb max_children k) refl
  where
    go : (b : Bool) → leb max_children k ≡ b → rest_in cells i k ≡ []
    go true q = rest_last cells i k (leb-true max_children k q)
    go false q = rest_stop cells i k x (leb-false max_children k q) e u

-- n, with the children from place k on, is the whole sum
pub record Summed (cells lengths : List ℕ) (i first n k : ℕ) : Type 0 where
  pub so_far : n + list_length lengths (rest_in cells i k) ≡ first + list_length lengths (row_in cells i).children

module _ (cells lengths : List ℕ) (i first : ℕ) where
  pub summed_none : Summed cells lengths i first first 0
  summed_none = record { so_far = ap (λ cs. first + list_length lengths cs) (sym (rest_first cells i)) }

  pub summed_end : (n k : ℕ) → Summed cells lengths i first n k → rest_in cells i k ≡ [] → (space : ℕ) (r : Option ℕ) → r ≡ within space (n + 1 + 0) → r ≡ within space (first + list_length lengths (row_in cells i).children)
  unfolding list_length
  summed_end n k h none space r f = f ∙ ap (within space) (whole ∙ h.so_far)
    where
      whole : n + 1 + 0 ≡ n + list_length lengths (rest_in cells i k)
      whole = rw none (omega arith)

  module _ (n k x : ℕ) (h : Summed cells lengths i first n k) (e : x ≡ place_in cells i k) where
    module _ (u : x ≡ unused → ⊥) (y space : ℕ) (r : Option ℕ) (d : y ≡ get_or lengths x 0) (f : r ≡ within space (n + 1 + y)) where
      step : n + 1 + y + list_length lengths (rest_in cells i (k + 1)) ≡ first + list_length lengths (row_in cells i).children
      unfolding list_length
      step =
          let a : list_length lengths (rest_in cells i k) ≡ 1 + get_or lengths x 0 + list_length lengths (rest_in cells i (k + 1)) = ap (list_length lengths) (rest_more cells i k x (place_in_use cells i k x e u) e u) in
          let b = h.so_far in
          omega arith

      pub summed_over : r ≡ None → None ≡ within space (first + list_length lengths (row_in cells i).children)
      summed_over o = let a = is_over space (n + 1 + y) r f o in let b = step in over space (first + list_length lengths (row_in cells i).children) (omega arith)

      pub summed_more : (m : ℕ) → r ≡ Some m → Summed cells lengths i first m (k + 1)
      summed_more m o = let a = is_fits space (n + 1 + y) r m f o in record { so_far = rw a.0 step }

-- a row: its name, then its scalar or its children
module _ (name : ℕ → List ℕ) (cells lengths : List ℕ) (i n c space : ℕ) (r : Option ℕ) (a : n ≡ length (name (row_in cells i).symbol)) (e : c ≡ place_in cells i 0) where
  pub leaf_length : (p : Piece) (m : ℕ) → c ≡ unused → Holds p (scalar_text (row_in cells i).kind (row_in cells i).payload) → m ≡ piece_bytes - p.start → r ≡ within space (n + m + 0)
      → r ≡ within space (row_length name lengths cells i)
  unfolding row_length
  leaf_length p m u h q f = f ∙ ap (within space) whole
    where
      text : List ℕ
      text = scalar_text (row_in cells i).kind (row_in cells i).payload

      whole : n + m + 0 ≡ length (name (row_in cells i).symbol) + behind_length lengths (row_in cells i) (row_in cells i).children
      whole = let z : n + m + 0 ≡ length (name (row_in cells i).symbol) + length text = omega (arith, h.size) in z ∙ ap (λ cs. length (name (row_in cells i).symbol) + behind_length lengths (row_in cells i) cs) (sym (no_children_lem cells i c e u))

  pub list_length_lem : (c ≡ unused → ⊥) → r ≡ within space (n + list_length lengths (row_in cells i).children) → r ≡ within space (row_length name lengths cells i)
  unfolding row_length
  list_length_lem u f =
      f
      ∙ ap (within space)
      (ap (λ m. m + list_length lengths (row_in cells i).children) a
      ∙ ap (λ cs. length (name (row_in cells i).symbol) + list_length lengths cs) (some_children cells i c e u)
      ∙ ap (λ cs. length (name (row_in cells i).symbol) + behind_length lengths (row_in cells i) cs) (sym (some_children cells i c e u)))

-- the lengths of the rows below i, all of which fit
pub record Lengths (name : ℕ → List ℕ) (cells : List ℕ) (space : ℕ) (lengths : List ℕ) (i : ℕ) : Type 0 where
  pub long : length lengths ≡ max_rows
  pub so_far : (j : ℕ) → j < i → get_or lengths j 0 ≡ length (row_text name cells j)
  pub fit : (j : ℕ) → j < i → length (row_text name cells j) ≤ space

module _ (name : ℕ → List ℕ) (cells : List ℕ) (space : ℕ) (s : SoundCells cells) where
  pub lengths_none : Lengths name cells space (replicate max_rows 0) 0
  lengths_none = record { long = length-replicate {A = ℕ} max_rows 0; so_far = λ j l. let z : ⊥ = omega arith in absurd z; fit = λ j l. let z : ⊥ = omega arith in absurd z }

  module _ (lengths : List ℕ) (i : ℕ) (h : Lengths name cells space lengths i) (l : i < row_count cells) (r : Option ℕ) (f : r ≡ within space (row_length name lengths cells i)) where
    pub lengths_over : r ≡ None → None ≡ within space (length (row_text name cells (row_count cells - 1)))
    lengths_over o =
        let a = is_over space (row_length name lengths cells i) r f o in
        let b = row_long cells s name lengths i l h.so_far in
        let c = no_longer cells s name i l in
        over space (length (row_text name cells (row_count cells - 1))) (omega arith)

    pub lengths_more : (m : ℕ) → r ≡ Some m → Lengths name cells space (set lengths i m) (i + 1)
    lengths_more m o =
        let a = is_fits space (row_length name lengths cells i) r m f o in
        let b = row_long cells s name lengths i l h.so_far in
        record {
          long = length-set lengths i m ∙ h.long;
          so_far =
              below_more (λ j. get_or (set lengths i m) j 0 ≡ length (row_text name cells j)) i
              (λ j k. get_or-set_other lengths i j m 0 (λ q. omega arith) ∙ h.so_far j k)
              (get_or-set_same lengths i m 0 (rw h.long (omega (arith, few_rows cells s))) ∙ a.0 ∙ b);
          fit = below_more (λ j. length (row_text name cells j) ≤ space) i h.fit (omega (arith, a.1));
        }

  pub lengths_all : (lengths : List ℕ) (i n x : ℕ) → Lengths name cells space lengths i → n ≡ row_count cells → n ≤ i → x ≡ n - 1 → Some (get_or lengths x 0) ≡ within space (length (row_text name cells (row_count cells - 1)))
  lengths_all lengths i n x h e l q =
      let z : x ≡ row_count cells - 1 = omega arith in
      let a : row_count cells - 1 < i = omega (arith, some_rows cells s) in
      ap Some (ap (λ k. get_or lengths k 0) z ∙ h.so_far (row_count cells - 1) a) ∙ fits space (length (row_text name cells (row_count cells - 1))) (h.fit (row_count cells - 1) a)

pub ruleset summing = (summed_none, rules)
