-- Marks of what is used: what one number's places add, and that a mark stands where some later number has it in a place. Assumes nothing.
use mathlib.Core.Path.{◌≡◌, refl, sym, ap, ◌∙◌}
use mathlib.Core.List.{List, [], ◌∷◌, map}
use mathlib.Core.Bool.{Bool, true, false, ◌&&◌, ◌||◌}
use Prim.Native.Nat.{ℕ, zero, suc, ◌+◌, ◌-◌, ◌<◌, ◌≤◌}
use native.Mathlib.Numerals.{add-one}
use native.Mathlib.Omega.{arith}
use borrow.Author.Rules.{rules}
use borrow.Author.Tests.{eqb-true, eqb-false, eq-eqb, ne_eqb, lt-ltb, le-ltb}
use lib.Dec.{eqb, ltb}
use lib.ListN.{length, length-map, get_or, set, drop, replicate, length-set, length-replicate, get_or-replicate, drop_of_length-le}
use lib.Seq.{get_or-set_same, get_or-set_other, drop-cons}
use Rattle.model.specs.Limits.{max_rows, unused}
use Rattle.model.specs.Table.{Row, row_at}
use Rattle.model.specs.Lists.{all_below, any_below, uses?}
use Rattle.document.specs.Rows.{used, places_in, decode_rows}
use Rattle.document.specs.Check.{used?}
use Rattle.document.specs.Marks.{Counted, Marked}
use Rattle.document.proofs.Places.{row_at_lem, rows_length}

or_false : (a : Bool) → (a || false) ≡ a
or_false true = refl
or_false false = refl

or_true : (a : Bool) → (a || true) ≡ true
or_true true = refl
or_true false = refl

and_false : (a : Bool) → (a && false) ≡ false
and_false true = refl
and_false false = refl

uses_none : (j i : ℕ) → uses? j [] i ≡ false
unfolding uses?
uses_none j i = and_false (ltb i j)

uses_this : (j i x : ℕ) (cs : List ℕ) → i ≡ x → i < j → uses? j (x ∷ cs) i ≡ true
unfolding uses?
uses_this j i x cs e l = simp (lt-ltb i j l, eq-eqb i x e)

uses_high : (j i : ℕ) (cs : List ℕ) → j ≤ i → uses? j cs i ≡ false
unfolding uses?
uses_high j i cs l = simp (le-ltb i j l)

uses_other : (j i x : ℕ) (cs : List ℕ) → eqb i x ≡ false → uses? j (x ∷ cs) i ≡ uses? j cs i
unfolding uses?
uses_other j i x cs e = simp e

-- the places from k on, up to the first unused one
module _ (ps : List ℕ) (k : ℕ) where
  rest_last : length ps ≤ k → used (drop k ps) ≡ []
  rest_last l = ap used (drop_of_length-le ps l)

  rest_stop : k < length ps → get_or ps k 0 ≡ unused → used (drop k ps) ≡ []
  rest_stop l u = ap used (drop-cons ps k 0 l) ∙ simp (eq-eqb (get_or ps k 0) unused u)

  rest_more : k < length ps → (get_or ps k 0 ≡ unused → ⊥) → used (drop k ps) ≡ get_or ps k 0 ∷ used (drop (k + 1) ps)
  rest_more l u = ap used (drop-cons ps k 0 l) ∙ simp (ne_eqb (get_or ps k 0) unused u, add-one)

-- the number v of item k
pub item_number : {A : Type 0} (f : A → ℕ) (xs : List A) (k : ℕ) (x : A) (v : ℕ) → k < length xs → x ≡ get_or xs k x → v ≡ f x → v ≡ get_or (map f xs) k 0
item_number f [] k x v l e q = absurd (omega arith)
item_number f (y ∷ xs) zero x v l e q = q ∙ ap f e
item_number f (y ∷ xs) (suc k) x v l e q = item_number f xs k x v (omega arith) e q

pub item_inside : {A : Type 0} (f : A → ℕ) (xs : List A) (k : ℕ) → k < length xs → k < length (map f xs)
item_inside f xs k l = rw length-map l

pub items_passed : {A : Type 0} (f : A → ℕ) (xs : List A) (k : ℕ) → length xs ≤ k → length (map f xs) ≤ k
items_passed f xs k l = rw length-map l

-- at the head of the loop over the places ps of j: the marks, and what the places from k on add
pub record Marking (ps : List ℕ) (j : ℕ) (before marks : List Bool) (k : ℕ) : Type 0 where
  pub long : length marks ≡ length before
  pub so_far : (i : ℕ) → i < length before → (get_or marks i false || uses? j (used (drop k ps)) i) ≡ (get_or before i false || uses? j (used ps) i)

module _ (ps : List ℕ) (j : ℕ) (before : List Bool) where
  pub marking_none : Marking ps j before before 0
  marking_none = record { long = refl; so_far = λ i l. refl }

  module _ (marks : List Bool) (k : ℕ) (h : Marking ps j before marks k) where
    marked_when : used (drop k ps) ≡ [] → Marked j (used ps) before marks
    marked_when e i l =
        sym (or_false (get_or marks i false)) ∙ ap (λ (b : Bool). get_or marks i false || b) (sym (uses_none j i) ∙ ap (λ (cs : List ℕ). uses? j cs i) (sym e)) ∙ h.so_far i l

    pub marked_all : length ps ≤ k → Marked j (used ps) before marks
    marked_all l = marked_when (rest_last ps k l)

    -- place k holds x
    module _ (x : ℕ) (l : k < length ps) (e : x ≡ get_or ps k 0) where
      pub marked_stop : x ≡ unused → Marked j (used ps) before marks
      marked_stop u = marked_when (rest_stop ps k l (sym e ∙ u))

      -- in use: the marks marks' have it too where it is lower than j
      module _ (u : x ≡ unused → ⊥) where
        step : (marks' : List Bool) → ((i : ℕ) → i < length before → (get_or marks' i false || uses? j (used (drop (k + 1) ps)) i) ≡ (get_or marks i false || uses? j (x ∷ used (drop (k + 1) ps)) i)) → length marks' ≡ length before → Marking ps j before marks' (k + 1)
        step marks' g w =
            let more : used (drop k ps) ≡ x ∷ used (drop (k + 1) ps) = rest_more ps k l (λ q. u (e ∙ q)) ∙ ap (λ (y : ℕ). y ∷ used (drop (k + 1) ps)) (sym e) in
            record { long = w; so_far = λ i m. g i m ∙ ap (λ (cs : List ℕ). get_or marks i false || uses? j cs i) (sym more) ∙ h.so_far i m }

        pub marking_more : (marks' : List Bool) (a : ℕ) → x < j → a ≡ x → marks' ≡ set marks a true → Marking ps j before marks' (k + 1)
        marking_more marks' a low f g =
            let q : marks' ≡ set marks x true = rw (← f) g in
            step marks' (λ i m. ap (λ (ms : List Bool). get_or ms i false || uses? j (used (drop (k + 1) ps)) i) q ∙ one i m (eqb i x) refl) (ap length q ∙ length-set marks x true ∙ h.long)
          where
            one : (i : ℕ) → i < length before → (b : Bool) → eqb i x ≡ b → (get_or (set marks x true) i false || uses? j (used (drop (k + 1) ps)) i) ≡ (get_or marks i false || uses? j (x ∷ used (drop (k + 1) ps)) i)
            one i m true q =
                let s : i ≡ x = eqb-true i x q in
                let m' : x < length marks = rw h.long (omega arith) in
                rw (s, get_or-set_same marks x true false m', uses_this j x x (used (drop (k + 1) ps)) refl low, or_true)
            one i m false q = rw (get_or-set_other marks x i true false (eqb-false i x q), uses_other j i x (used (drop (k + 1) ps)) q)

        pub marking_same : j ≤ x → Marking ps j before marks (k + 1)
        marking_same high = step marks (λ i m. one i (eqb i x) refl) h.long
          where
            one : (i : ℕ) (b : Bool) → eqb i x ≡ b → (get_or marks i false || uses? j (used (drop (k + 1) ps)) i) ≡ (get_or marks i false || uses? j (x ∷ used (drop (k + 1) ps)) i)
            one i true q =
                let s : i ≡ x = eqb-true i x q in
                rw (s, uses_high j x (used (drop (k + 1) ps)) high, uses_high j x (x ∷ used (drop (k + 1) ps)) high)
            one i false q = rw (uses_other j i x (used (drop (k + 1) ps)) q)

same_below : (n : ℕ) (p q : ℕ → Bool) → ((i : ℕ) → i < n → p i ≡ q i) → all_below n p ≡ all_below n q
unfolding all_below
same_below zero p q h = refl
same_below (suc n) p q h = cc (same_below n p q (λ i l. h i (omega arith)), h n (omega arith))

any_same : (n : ℕ) (p q : ℕ → Bool) → ((i : ℕ) → i < n → p i ≡ q i) → any_below n p ≡ any_below n q
unfolding any_below
any_same zero p q h = refl
any_same (suc n) p q h = cc (any_same n p q (λ i l. h i (omega arith)), h n (omega arith))

-- m marks after the first j of n numbers, whose places are `at`
pub record MarkedBelow (at : ℕ → List ℕ) (n m : ℕ) (marks : List Bool) (j : ℕ) : Type 0 where
  pub inside : j ≤ n
  pub long : length marks ≡ m
  pub so_far : (i : ℕ) → i < m → get_or marks i false ≡ any_below j (λ j. uses? j (used (at j)) i)

module _ (at : ℕ → List ℕ) (n m : ℕ) where
  pub below_first : MarkedBelow at n m (replicate m false) 0
  unfolding any_below
  below_first = record { inside = omega arith; long = length-replicate m false; so_far = λ i l. get_or-replicate m i false false l }

  module _ (marks : List Bool) (j : ℕ) (h : MarkedBelow at n m marks j) where
    pub below_next : (marks' : List Bool) (ps : List ℕ) → j < n → ps ≡ at j → Marked j (used ps) marks marks' → length marks' ≡ length marks → MarkedBelow at n m marks' (j + 1)
    unfolding any_below
    below_next marks' ps lj e k l =
        record {
          inside = omega arith;
          long = l ∙ h.long;
          so_far = λ i li. rw add-one (k i (rw h.long li) ∙ (λ z. h.so_far i li z || uses? j (used (e z)) i));
        }

    -- each number but the last is marked exactly where it is used; cs is what the places hold
    pub all_marked : (cs : ℕ → List ℕ) (k : ℕ) (r : Bool) → n ≤ m → ((i : ℕ) → i < n → used (at i) ≡ cs i) → n ≤ j → k ≡ n - 1 → r ≡ all_below k (λ i. get_or marks i false) → r ≡ all_below (n - 1) (λ i. any_below n (λ j. uses? j (cs j) i))
    all_marked cs k r few same last f q =
        let e : j ≡ n = omega (arith, h.inside) in
        q
        ∙ same_below k (λ i. get_or marks i false) (λ i. any_below n (λ j. uses? j (cs j) i))
        (λ i l.
        h.so_far i (omega arith)
        ∙ ap (λ (z : ℕ). any_below z (λ j. uses? j (used (at j)) i)) e
        ∙ any_same n (λ j. uses? j (used (at j)) i) (λ j. uses? j (cs j) i) (λ y ly. ap (λ (xs : List ℕ). uses? y xs i) (same y ly)))
        ∙ ap (λ (z : ℕ). all_below z (λ i. any_below n (λ j. uses? j (cs j) i))) f

pub ruleset markings = (marking_none, marked_stop, marked_all, marking_more, marking_same, below_first, below_next, rules)

-- 16: the marks of the rows of a table
pub rows_marked : (cells : List ℕ) (n : ℕ) (marks : List Bool) (j k : ℕ) (r : Bool) → Counted cells n → MarkedBelow (places_in cells) n max_rows marks j → n ≤ j → k ≡ n - 1 → r ≡ all_below k (λ i. get_or marks i false) → r ≡ all_below (length (decode_rows cells) - 1) (used? (decode_rows cells))
unfolding used?
rows_marked cells n marks j k r c h last f q =
    all_marked (places_in cells) n max_rows marks j h (λ i. (row_at (decode_rows cells) i).children) k r c.few
    (λ i l. ap (λ (x : Row). x.children) (sym (row_at_lem cells i (omega (arith, c.rows))))) last f q
    ∙ ap (λ (z : ℕ). all_below (z - 1) (λ i. any_below z (λ j. uses? j (row_at (decode_rows cells) j).children i))) (c.rows ∙ sym (rows_length cells))
