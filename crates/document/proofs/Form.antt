-- A table that 11 to 14 let pass: each row has the children that its symbol asks, all of them lower, and the scalar that fits; and that minus zero does not. Assumes nothing.
use mathlib.Core.Path.{◌≡◌, refl, sym, ap, ◌∙◌, subst}
use mathlib.Core.List.{List, ◌∷◌, Memᴰ as In}
use mathlib.Core.Bool.{Bool, true, false, ◌&&◌, cond}
use Prim.Native.Nat.{ℕ, zero, suc, ◌+◌, ◌%◌, ◌<◌, ◌≤◌}
use native.Mathlib.Omega.{arith}
use borrow.Author.Tests.{ltb-true, leb-true, eqb-true, lt-ltb, le-ltb, le-leb, eq-eqb, ne_eqb}
use mir.Syntax.{w16}
use mir.Val.{Fits}
use lib.Dec.{T, eqb, leb, ltb}
use lib.ListN.{length}
use Rattle.model.specs.Limits.{max_children, max_rows, unused}
use Rattle.model.specs.Lists.{tab, all_below}
use Rattle.model.specs.Automaton.{Automaton, arity_of}
use Rattle.model.specs.Refusal.{demand, and_after}
use Rattle.model.specs.Table.{minus_zero, row_at, scalar?, Lower, SoundRow}
use Rattle.model.proofs.Tab.{length_tab, in_tab}
use Rattle.model.proofs.Below.{fails, at}
use Rattle.automaton.proofs.Parts.{all_of, tab_same}
use Rattle.document.specs.Rows.{row_cells, cell_in, used, row_in, decode_rows}
use Rattle.document.specs.Check.{row_count, counted?, known?, place_in, place?, child?, arity_in, children?, scalar_for?, scalar_fits?, form_check_of, table_check_of}
use Rattle.document.specs.Marks.{Counted}
use Rattle.document.proofs.Places.{row_at_lem, rows_length, place_cell}
use Rattle.document.proofs.Refusals.{passed, pass, true_and}

-- the places up to the first unused one, where the first a are in use and the others not
used_tab : (n a : ℕ) (f : ℕ → ℕ) → a ≤ n → ((k : ℕ) → k < a → f k ≡ unused → ⊥) → ((k : ℕ) → a ≤ k → k < n → f k ≡ unused) → used (tab n f) ≡ tab a f
used_tab zero zero f l h g = refl
used_tab zero (suc a) f l h g = let z : ⊥ = omega arith in absurd z
used_tab (suc n) zero f l h g = simp (eq-eqb (f 0) unused (g 0 (omega arith) (omega arith)))
used_tab (suc n) (suc a) f l h g =
    simp (ne_eqb (f 0) unused (h 0 (omega arith)))
    (ap (λ (xs : List ℕ). f 0 ∷ xs) (used_tab n a (λ k. f (suc k)) (omega arith) (λ k m. h (suc k) (omega arith)) (λ k m o. g (suc k) (omega arith) (omega arith))))

place_true : (b : Bool) (i x : ℕ) → b ≡ true → place? b i x ≡ true → x < i
place_true b i x e h = ltb-true x i (rw e at h)

place_false : (b : Bool) (i x : ℕ) → b ≡ false → place? b i x ≡ true → x ≡ unused
place_false b i x e h = eqb-true x unused (rw e at h)

module _ (cells : List ℕ) (i a : ℕ) (h : all_below max_children (child? cells i a) ≡ true) (few : a ≤ max_children) (low : i ≤ unused) where
  place_test : (k : ℕ) → k < max_children → place? (ltb k a) i (place_in cells i k) ≡ true
  unfolding child?
  place_test k l = at (child? cells i a) max_children k h l

  -- a place in use holds a lower row
  pub place_lower : (k : ℕ) → k < a → place_in cells i k < i
  place_lower k l = place_true (ltb k a) i (place_in cells i k) (lt-ltb k a l) (place_test k (omega arith))

  place_unused : (k : ℕ) → a ≤ k → k < max_children → place_in cells i k ≡ unused
  place_unused k l m = place_false (ltb k a) i (place_in cells i k) (le-ltb k a l) (place_test k m)

  -- the children are the places in use
  pub children_places : (row_in cells i).children ≡ tab a (place_in cells i)
  children_places =
      ap used (tab_same max_children (λ k. cell_in cells i (1 + k)) (place_in cells i) (λ k l. place_cell cells i k (cell_in cells i (1 + k)) l refl))
      ∙ used_tab max_children a (place_in cells i) few (λ k l e. let w = place_lower k l in omega arith) place_unused

-- what the scalar test tells
fits_bare : (a k p : ℕ) → scalar_for? a k p ≡ true → 0 < a → (k ≡ 0) × (p ≡ 0)
fits_bare a k p h l =
    let g = true_and (eqb k 0) (eqb p 0) (rw (ne_eqb a 0 (λ e. omega arith)) at h) in
    (eqb-true k 0 g.0, eqb-true p 0 g.1)

pub fits_scalar : (a k p : ℕ) → scalar_for? a k p ≡ true → T (scalar? k p)
fits_scalar zero k p h = rw h tt
fits_scalar (suc a) k p h = let g = fits_bare (suc a) k p h (omega arith) in rw (g.0, g.1) tt

-- what 11 to 14 ask, as facts
pub record Formed (A : Automaton) (cells : List ℕ) : Type 0 where
  pub counted : Counted cells (row_count cells)
  pub whole : length cells % row_cells ≡ 0
  pub known : (i : ℕ) → i < row_count cells → (row_in cells i).symbol < length A.arities
  pub places : (i : ℕ) → i < row_count cells → all_below max_children (child? cells i (arity_in A cells i)) ≡ true
  pub scalars : (i : ℕ) → i < row_count cells → scalar_for? (arity_in A cells i) (row_in cells i).kind (row_in cells i).payload ≡ true

module _ (A : Automaton) (cells : List ℕ) where
  -- no refusal by 11 to 14 is what they ask, and back
  pub formed : form_check_of A cells ≡ 0 → Formed A cells
  unfolding form_check_of counted? known? children? scalar_fits?
  formed h =
      let (c, h₁) = passed (counted? cells) 11 _ (omega arith) h in
      let (k, h₂) = passed (all_below (row_count cells) (known? A cells)) 12 _ (omega arith) h₁ in
      let (p, h₃) = passed (all_below (row_count cells) (children? A cells)) 13 _ (omega arith) h₂ in
      let (s, h₄) = passed (all_below (row_count cells) (scalar_fits? A cells)) 14 _ (omega arith) h₃ in
      let (some, c₁) = true_and (leb 1 (row_count cells)) (leb (row_count cells) max_rows && eqb (length cells % row_cells) 0) c in
      let (few, w) = true_and (leb (row_count cells) max_rows) (eqb (length cells % row_cells) 0) c₁ in
      record {
        counted = record { rows = refl; some = leb-true 1 (row_count cells) some; few = leb-true (row_count cells) max_rows few };
        whole = eqb-true (length cells % row_cells) 0 w;
        known = λ i l. ltb-true (row_in cells i).symbol (length A.arities) (at (known? A cells) (row_count cells) i k l);
        places = λ i l. at (children? A cells) (row_count cells) i p l;
        scalars = λ i l. at (scalar_fits? A cells) (row_count cells) i s l;
      }

  pub form_passes : Formed A cells → form_check_of A cells ≡ 0
  unfolding form_check_of counted? known? children? scalar_fits?
  form_passes f =
      pass (counted? cells) 11 _
      (rw (le-leb 1 (row_count cells) f.counted.some, le-leb (row_count cells) max_rows f.counted.few) (eq-eqb (length cells % row_cells) 0 f.whole))
      (pass (all_below (row_count cells) (known? A cells)) 12 _ (all_of (row_count cells) (known? A cells) (λ i l. lt-ltb (row_in cells i).symbol (length A.arities) (f.known i l)))
      (pass (all_below (row_count cells) (children? A cells)) 13 _ (all_of (row_count cells) (children? A cells) f.places)
      (pass (all_below (row_count cells) (scalar_fits? A cells)) 14 0 (all_of (row_count cells) (scalar_fits? A cells) f.scalars) refl)))

  module _ (few : (s : ℕ) → arity_of A s ≤ max_children) (f : Formed A cells) where
    module _ (i : ℕ) (l : i < row_count cells) where
      below : i ≤ unused
      below = omega (arith, f.counted.few)

      -- a row's children are the places that its symbol uses
      pub children_are : (row_in cells i).children ≡ tab (arity_in A cells i) (place_in cells i)
      children_are = children_places cells i (arity_in A cells i) (f.places i l) (few (row_in cells i).symbol) below

      pub child_lower : (j : ℕ) → In j (row_in cells i).children → j < i
      child_lower j m =
          let (k, w, e) = in_tab (arity_in A cells i) (place_in cells i) (subst (In j) children_are m) in
          rw e (place_lower cells i (arity_in A cells i) (f.places i l) (few (row_in cells i).symbol) below k w)

      pub sound_row : SoundRow A (row_in cells i)
      sound_row =
          record {
            known = f.known i l;
            as_many = ap length children_are ∙ length_tab (arity_in A cells i) (place_in cells i);
            scalar = fits_scalar (arity_in A cells i) (row_in cells i).kind (row_in cells i).payload (f.scalars i l);
            bare = fits_bare (arity_in A cells i) (row_in cells i).kind (row_in cells i).payload (f.scalars i l);
          }

    inside : (i : ℕ) → i < length (decode_rows cells) → i < row_count cells
    inside i l = rw (rows_length cells) at l

    pub rows_sound : (i : ℕ) → i < length (decode_rows cells) → SoundRow A (row_at (decode_rows cells) i)
    rows_sound i l = rw (row_at_lem cells i (inside i l)) (sound_row i (inside i l))

    pub rows_lower : Lower (decode_rows cells)
    rows_lower i l j m = child_lower i (inside i l) j (subst (λ r. In j r.children) (row_at_lem cells i (inside i l)) m)

-- A TABLE THAT PASSES 11 TO 13 IS REFUSED WITH 14 WHERE A ROW HOLDS MINUS ZERO, be the row's symbol one with children or without.
pub minus_zero_refused : (A : Automaton) (cells : List ℕ) (i : ℕ) → i < row_count cells → (row_in cells i).kind ≡ 3 → (row_in cells i).payload ≡ minus_zero → counted? cells ≡ true → all_below (row_count cells) (known? A cells) ≡ true → all_below (row_count cells) (children? A cells) ≡ true → table_check_of A cells ≡ 14
unfolding table_check_of form_check_of scalar_fits? demand and_after
minus_zero_refused A cells i l kind payload counted known children =
    rw (counted, known, children, fails (scalar_fits? A cells) (row_count cells) i l wrong)
  where
    go : (none : Bool) → cond none (scalar? 3 minus_zero) (eqb 3 0 && eqb minus_zero 0) ≡ false
    go true = refl
    go false = refl

    wrong : scalar_for? (arity_in A cells i) (row_in cells i).kind (row_in cells i).payload ≡ false
    wrong = (λ j. scalar_for? (arity_in A cells i) (kind j) (payload j)) ∙ go (eqb (arity_in A cells i) 0)

-- the number of rows that 11 lets pass fits 16 bits
pub count_fits : (cells : List ℕ) (f : Bool) (n : ℕ) → f ≡ counted? cells → f ≡ true → n ≡ row_count cells → Fits w16 n
unfolding counted?
count_fits cells f n e t q =
    let (some, c) = true_and (leb 1 (row_count cells)) (leb (row_count cells) max_rows && eqb (length cells % row_cells) 0) (sym e ∙ t) in
    let few = leb-true (row_count cells) max_rows (true_and (leb (row_count cells) max_rows) (eqb (length cells % row_cells) 0) c).0 in
    record { fits = omega arith }
