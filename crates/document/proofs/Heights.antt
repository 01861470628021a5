-- Heights of a table's rows, row by row: one more than the highest child's. Assumes nothing.
use mathlib.Core.Path.{◌≡◌, refl, sym, ap, ◌∙◌}
use mathlib.Core.List.Memᴰ.{head as here}
use mathlib.Core.List.Memᴰ.{tail as there}
use mathlib.Core.List.{List, [], ◌∷◌, map, Memᴰ as In}
use mathlib.Core.Bool.{Bool, true, false, cond}
use Prim.Native.Nat.{ℕ, suc, ◌+◌, ◌-◌, ◌<◌, ◌≤◌, max}
use native.Mathlib.Numerals.{add-one}
use native.Mathlib.Omega.{arith}
use borrow.Author.Count.{below_more}
use borrow.Author.Rules.{rules}
use borrow.Author.Tests.{leb-true, leb-false, le-leb, lt-leb}
use mir.Syntax.{w16}
use mir.Val.{Fits}
use lib.Dec.{leb}
use lib.ListN.{length, get_or, set, replicate, length-set, length-replicate}
use lib.Seq.{get_or-set_same, get_or-set_other}
use Rattle.model.specs.Limits.{max_children, max_rows, unused}
use Rattle.model.specs.Lists.{larger}
use Rattle.model.specs.Tree.{Tree, forest, levels, highest}
use Rattle.model.specs.Table.{Row, row_at, tree_at, tree_of, Lower}
use Rattle.model.proofs.Rows.{tree_eq}
use Rattle.document.specs.Rows.{row_in, decode_rows}
use Rattle.document.specs.Check.{place_in}
use Rattle.document.specs.Marks.{Counted, highest_of}
use Rattle.document.proofs.Places.{row_at_lem, rows_length, rest_in, rest_first, rest_last, rest_stop, rest_more}

-- `larger` is associative, with 0 as its unit
larger_cases : (P : ℕ → Type 0) (a b : ℕ) → (a ≤ b → P b) → (b < a → P a) → P (larger a b)
larger_cases P a b f g = go (leb a b) refl
  where
    go : (t : Bool) → leb a b ≡ t → P (cond t b a)
    go true e = f (leb-true a b e)
    go false e = g (leb-false a b e)

larger_le : (a b : ℕ) → a ≤ b → larger a b ≡ b
larger_le a b l = simp (le-leb a b l)

larger_gt : (a b : ℕ) → b < a → larger a b ≡ a
larger_gt a b l = simp (lt-leb a b l)

max_larger : (a b : ℕ) → max a b ≡ larger a b
max_larger a b = larger_cases (λ x. max a b ≡ x) a b (λ l. omega arith) (λ l. omega arith)

larger_zero : (a : ℕ) → larger a 0 ≡ a
larger_zero a = larger_cases (λ x. x ≡ a) a 0 (λ l. omega arith) (λ l. refl)

larger_assoc : (a b c : ℕ) → larger (larger a b) c ≡ larger a (larger b c)
larger_assoc a b c =
    larger_cases (λ x. larger x c ≡ larger a (larger b c)) a b
    (λ l. larger_cases (λ y. y ≡ larger a y) b c (λ m. sym (larger_le a c (omega arith))) (λ m. sym (larger_le a b l)))
    (λ l. larger_cases (λ y. larger a c ≡ larger a y) b c (λ m. refl) (λ m. larger_gt a c (omega arith) ∙ sym (larger_gt a b l)))

-- at the head of the loop over the places of row i: h, with the heights of the children from place k on
pub record Rising (cells : List ℕ) (heights : List ℕ) (i h k : ℕ) : Type 0 where
  pub so_far : larger h (highest_of heights (rest_in cells i k)) ≡ highest_of heights (row_in cells i).children

module _ (cells heights : List ℕ) (i : ℕ) where
  pub rising_none : Rising cells heights i 0 0
  rising_none = record { so_far = larger_le 0 (highest_of heights (rest_in cells i 0)) (omega arith) ∙ ap (highest_of heights) (sym (rest_first cells i)) }

  risen : (h k : ℕ) → Rising cells heights i h k → rest_in cells i k ≡ [] → h ≡ highest_of heights (row_in cells i).children
  risen h k r e = sym (larger_zero h) ∙ ap (λ cs. larger h (highest_of heights cs)) (sym e) ∙ r.so_far

  pub risen_stop : (h k x : ℕ) → Rising cells heights i h k → k < max_children → x ≡ place_in cells i k → x ≡ unused → h ≡ highest_of heights (row_in cells i).children
  risen_stop h k x r l e u = risen h k r (rest_stop cells i k x l e u)

  pub risen_all : (h k : ℕ) → Rising cells heights i h k → max_children ≤ k → h ≡ highest_of heights (row_in cells i).children
  risen_all h k r l = risen h k r (rest_last cells i k l)

  pub rising_more : (h h' k x y : ℕ) → Rising cells heights i h k → k < max_children → x ≡ place_in cells i k → (x ≡ unused → ⊥) → y ≡ get_or heights x 0 → h' ≡ max h y → Rising cells heights i h' (k + 1)
  rising_more h h' k x y r l e u f g =
      record {
        so_far =
            ap (λ z. larger z (highest_of heights (rest_in cells i (k + 1)))) (g ∙ max_larger h y ∙ ap (larger h) f)
            ∙ larger_assoc h (get_or heights x 0) (highest_of heights (rest_in cells i (k + 1)))
            ∙ ap (λ cs. larger h (highest_of heights cs)) (sym (rest_more cells i k x l e u))
            ∙ r.so_far;
      }

-- a row's levels from its children's
highest_of_lem : (f : ℕ → Tree) (heights cs : List ℕ) → ((c : ℕ) → In c cs → get_or heights c 0 ≡ levels (f c)) → highest_of heights cs ≡ highest (forest (map f cs))
unfolding highest
highest_of_lem f heights [] h = refl
highest_of_lem f heights (c ∷ cs) h = cc (h c (here refl), highest_of_lem f heights cs (λ d m. h d (there m)))

highest_low : (i : ℕ) (heights cs : List ℕ) → ((c : ℕ) → In c cs → get_or heights c 0 ≤ i) → highest_of heights cs ≤ i
highest_low i heights [] h = omega arith
highest_low i heights (c ∷ cs) h =
    larger_cases (λ x. x ≤ i) (get_or heights c 0) (highest_of heights cs) (λ l. highest_low i heights cs (λ d m. h d (there m))) (λ l. h c (here refl))

-- the heights of the rows below i
pub record HeightsBelow (rows : List Row) (heights : List ℕ) (i : ℕ) : Type 0 where
  pub long : length heights ≡ max_rows
  pub so_far : (j : ℕ) → j < i → get_or heights j 0 ≡ levels (tree_at rows j)
  pub low : (j : ℕ) → j < i → get_or heights j 0 ≤ suc j

module _ (cells : List ℕ) (n : ℕ) (c : Counted cells n) (lower : Lower (decode_rows cells)) where
  pub heights_first : HeightsBelow (decode_rows cells) (replicate max_rows 0) 0
  heights_first = record { long = length-replicate {A = ℕ} max_rows 0; so_far = λ j l. let z : ⊥ = omega arith in absurd z; low = λ j l. let z : ⊥ = omega arith in absurd z }

  module _ (heights : List ℕ) (i h : ℕ) (b : HeightsBelow (decode_rows cells) heights i) (l : i < n) (e : h ≡ highest_of heights (row_in cells i).children) where
    inside : i < length (decode_rows cells)
    inside = rw (rows_length cells, ← c.rows) l

    at_row : h ≡ highest_of heights (row_at (decode_rows cells) i).children
    at_row = e ∙ ap (λ r. highest_of heights r.children) (sym (row_at_lem cells i (rw (← c.rows) l)))

    height_low : h ≤ i
    height_low = rw at_row (highest_low i heights (row_at (decode_rows cells) i).children (λ j m. let k = lower i inside j m in let v = b.low j k in omega arith))

    pub height_fits : Fits w16 (h + 1)
    height_fits = record { fits = omega (arith, height_low, c.few) }

    row_levels : suc h ≡ levels (tree_at (decode_rows cells) i)
    unfolding levels
    row_levels =
        ap suc (at_row ∙ highest_of_lem (tree_at (decode_rows cells)) heights (row_at (decode_rows cells) i).children (λ j m. b.so_far j (lower i inside j m)))
        ∙ ap levels (sym (tree_eq (decode_rows cells) lower i inside))

    pub heights_next : (x y : ℕ) → x ≡ i → y ≡ h + 1 → HeightsBelow (decode_rows cells) (set heights x y) (i + 1)
    heights_next x y p q =
        rw (p, q)
        (record {
          long = length-set heights i (h + 1) ∙ b.long;
          so_far = below_more (λ j. get_or (set heights i (h + 1)) j 0 ≡ levels (tree_at (decode_rows cells) j)) i (λ j m. kept j m ∙ b.so_far j m) (new ∙ add-one h ∙ row_levels);
          low = below_more (λ j. get_or (set heights i (h + 1)) j 0 ≤ suc j) i (λ j m. rw (kept j m) (b.low j m)) (rw new (omega (arith, height_low)));
        })
      where
        kept : (j : ℕ) → j < i → get_or (set heights i (h + 1)) j 0 ≡ get_or heights j 0
        kept j m = get_or-set_other heights i j (h + 1) 0 (λ s. omega arith)

        new : get_or (set heights i (h + 1)) i 0 ≡ h + 1
        new = get_or-set_same heights i (h + 1) 0 (rw b.long (omega (arith, c.few)))

  -- the last row's height is the table's
  pub height_last : (heights : List ℕ) (i x y : ℕ) → HeightsBelow (decode_rows cells) heights i → n ≤ i → x ≡ n - 1 → y ≡ get_or heights x 0 → y ≡ levels (tree_of (decode_rows cells))
  height_last heights i x y b l e f =
      f
      ∙ b.so_far x (omega (arith, c.some))
      ∙ ap (λ k. levels (tree_at (decode_rows cells) k)) (e ∙ ap (λ k. k - 1) (c.rows ∙ sym (rows_length cells)))

pub ruleset rising = (rising_none, risen_stop, risen_all, rising_more, heights_first, height_fits, heights_next, height_last, rules)
