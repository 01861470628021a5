-- Lists put together of parts of one width, read by index; and tests at every index. Assumes nothing.
use mathlib.Core.Path.{◌≡◌, refl, sym, ap, ◌∙◌}
use mathlib.Core.Bool.{Bool, true, false}
use mathlib.Core.Logic.{◌⊎◌, inl, inr}
use mathlib.Core.List.{List, [], ◌∷◌, ◌++◌, map, append_assoc, append-nil}
use Prim.Native.Nat.{ℕ, zero, suc, ◌+◌, ◌*◌, ◌≤◌, ◌<◌}
use native.Mathlib.Nat.{mul-suc, mul-zero, mul-le-mul_left}
use native.Mathlib.Numerals.{add-one}
use native.Mathlib.Omega.{arith}
use borrow.Author.Tests.{ltb-true, ltb-false}
use lib.Dec.{ltb}
use lib.ListN.{length, get_or, take, drop, length-append, length-drop, length-map, get_or-append}
use lib.Seq.{get_or-append-add, take-add, take-suc, drop-drop, ext_get_or, get_or-take, get_or-drop, length-take-le, drop-cons}
use Rattle.model.specs.Lists.{concat_map, tab, all_below}
use Rattle.model.proofs.Tab.{tab_at, length_tab}

pub below_or : (a b : ℕ) → (a < b) ⊎ (b ≤ a)
below_or a b = go (ltb a b) refl
  where
    go : (t : Bool) → ltb a b ≡ t → (a < b) ⊎ (b ≤ a)
    go true e = inl (ltb-true a b e)
    go false e = inr (ltb-false a b e)

-- index i of n parts of width w lies before their end
pub inside : (w i n : ℕ) → i < n → w * i + w ≤ w * n
inside w i n l = omega (arith, mul-le-mul_left w l)

pub all_of : (n : ℕ) (p : ℕ → Bool) → ((i : ℕ) → i < n → p i ≡ true) → all_below n p ≡ true
unfolding all_below
all_of zero p h = refl
all_of (suc n) p h = rw (all_of n p (λ i l. h i (omega arith)), h n (omega arith))

-- an array of structs in a struct: what is known of its machine values tells its length
pub length_mapped : (A B : Type 0) (g : A → B) (xs : List A) (n : ℕ) → length (map g xs) ≡ n → length xs ≡ n
length_mapped A B g xs n e = sym (length-map xs g) ∙ e

module _ {A : Type 0} where
  pub tab_same : (n : ℕ) (f g : ℕ → A) → ((k : ℕ) → k < n → f k ≡ g k) → tab n f ≡ tab n g
  tab_same zero f g h = refl
  tab_same (suc n) f g h = cc (h 0 (omega arith), tab_same n (λ k. f (suc k)) (λ k. g (suc k)) (λ k l. h (suc k) (omega arith)))

  pub tab_of : (d : A) (xs : List A) → tab (length xs) (λ k. get_or xs k d) ≡ xs
  tab_of d [] = refl
  tab_of d (x ∷ xs) = ap (λ (l : List A). x ∷ l) (tab_of d xs)

  pub tab_map : (g : A → ℕ) (d : A) (xs : List A) → tab (length xs) (λ k. g (get_or xs k d)) ≡ map g xs
  tab_map g d [] = refl
  tab_map g d (x ∷ xs) = ap (λ (l : List ℕ). g x ∷ l) (tab_map g d xs)

  -- a list by its elements
  pub tab_is : (d : A) (xs : List A) (n : ℕ) (f : ℕ → A) → n ≡ length xs → ((k : ℕ) → k < length xs → f k ≡ get_or xs k d) → tab n f ≡ xs
  tab_is d xs n f e h = ap (λ (m : ℕ). tab m f) e ∙ tab_same (length xs) f (λ k. get_or xs k d) h ∙ tab_of d xs

  module _ (f : A → List ℕ) (w : ℕ) (wide : (x : A) → length (f x) ≡ w) where
    pub length_concat : (xs : List A) → length (concat_map f xs) ≡ w * length xs
    length_concat [] = sym (mul-zero w)
    length_concat (x ∷ xs) = let e = length_concat xs in let e' = wide x in let a = length-append (f x) (concat_map f xs) in let m = mul-suc w (length xs) in omega arith

    -- byte b of part i
    pub concat_at : (d : A) (xs : List A) (i b : ℕ) → i < length xs → b < w → get_or (concat_map f xs) (w * i + b) 0 ≡ get_or (f (get_or xs i d)) b 0
    concat_at d [] i b l m = absurd (omega arith)
    concat_at d (x ∷ xs) zero b l m =
        let e : w * 0 + b ≡ b = omega (arith, mul-zero w) in
        let lb : b < length (f x) = rw wide m in
        rw e (get_or-append (f x) (concat_map f xs) 0 b lb)
    concat_at d (x ∷ xs) (suc i) b l m =
        let e : w * suc i + b ≡ length (f x) + (w * i + b) = omega (arith, mul-suc w i, wide x) in
        rw e (get_or-append-add (f x) (concat_map f xs) (w * i + b) 0 ∙ concat_at d xs i b (omega arith) m)

    -- the parts of a table, where each is a part of s
    pub concat_tab : (s : List ℕ) (n : ℕ) (g : ℕ → A) (o : ℕ) → ((i : ℕ) → i < n → f (g i) ≡ take w (drop (o + w * i) s)) → concat_map f (tab n g) ≡ take (w * n) (drop o s)
    concat_tab s zero g o h = ap (λ (m : ℕ). take m (drop o s)) (sym (mul-zero w))
    concat_tab s (suc n) g o h =
        let e : o + w * 0 ≡ o = omega (arith, mul-zero w) in
        let n' : w * suc n ≡ w + w * n = omega (arith, mul-suc w n) in
        let first : f (g 0) ≡ take w (drop o s) = h 0 (omega arith) ∙ ap (λ (m : ℕ). take w (drop m s)) e in
        let rest : concat_map f (tab n (λ k. g (suc k))) ≡ take (w * n) (drop (o + w) s) = concat_tab s n (λ k. g (suc k)) (o + w) (λ i l. later i l) in
        let whole : take (w * suc n) (drop o s) ≡ take w (drop o s) ++ take (w * n) (drop (o + w) s) =
        ap (λ (m : ℕ). take m (drop o s)) n'
        ∙ take-add w (w * n) (drop o s)
        ∙ ap (λ (r : List ℕ). take w (drop o s) ++ take (w * n) r) (drop-drop w o s) in
        cc
      where
        later : (i : ℕ) → i < n → f (g (suc i)) ≡ take w (drop (o + w + w * i) s)
        later i l = let e : o + w * suc i ≡ o + w + w * i = omega (arith, mul-suc w i) in rw (← e) (h (suc i) (omega arith))

-- a part of s, element by element
pub part_tab : (w q : ℕ) (s : List ℕ) → q + w ≤ length s → take w (drop q s) ≡ tab w (λ b. get_or s (q + b) 0)
part_tab w q s h =
    let e : length (take w (drop q s)) ≡ w = length-take-le w (drop q s) (rw length-drop (omega arith)) in
    ext_get_or 0 (take w (drop q s)) (tab w (λ b. get_or s (q + b) 0)) (e ∙ sym (length_tab w (λ b. get_or s (q + b) 0)))
    (λ i l. let m : i < w = rw e at l in
    get_or-take w (drop q s) i 0 m ∙ get_or-drop q s i 0 ∙ sym (tab_at 0 w (λ b. get_or s (q + b) 0) i m))

-- the parts from i on: part i, then those from i + 1 on
pub concat_drop : {A : Type 0} (f : A → List ℕ) (d : A) (xs : List A) (i : ℕ) → i < length xs → concat_map f (drop i xs) ≡ f (get_or xs i d) ++ concat_map f (drop (i + 1) xs)
concat_drop f d xs i l = ap (concat_map f) (drop-cons xs i d l) ∙ ap (λ (n : ℕ). f (get_or xs i d) ++ concat_map f (drop n xs)) (sym (add-one i))

module _ {X Y : Type 0} (f : X → List Y) where
  pub concat_map_append : (xs ys : List X) → concat_map f (xs ++ ys) ≡ concat_map f xs ++ concat_map f ys
  concat_map_append [] ys = refl
  concat_map_append (x ∷ xs) ys = ap (f x ++◌) (concat_map_append xs ys) ∙ sym (append_assoc (f x) (concat_map f xs) (concat_map f ys))

  pub concat_map_more : (d : X) (xs : List X) (i : ℕ) → i < length xs → concat_map f (take (suc i) xs) ≡ concat_map f (take i xs) ++ f (get_or xs i d)
  concat_map_more d xs i l =
      ap (concat_map f) (take-suc xs i d l)
      ∙ concat_map_append (take i xs) (get_or xs i d ∷ [])
      ∙ ap (concat_map f (take i xs) ++◌) (append-nil (f (get_or xs i d)))
