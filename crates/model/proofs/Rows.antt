-- The trees of a table's rows: the equation of a row's tree, and that rows without equals have trees without equals. Assumes nothing.
use mathlib.Core.Path.{◌≡◌, refl, sym, ap, ◌∙◌}
use mathlib.Core.Logic.{◌↔◌}
use mathlib.Core.Option.{Option, none, some, some-injective, none-ne-some}
use mathlib.Core.List.Memᴰ.{head as here}
use mathlib.Core.List.Memᴰ.{tail as there}
use mathlib.Core.List.{List, [], ◌∷◌, ◌++◌, map, Memᴰ as In, nil≢cons, cons≢nil, head-eq_of_cons-eq, tail-eq_of_cons-eq}
use Prim.Native.Nat.{ℕ, zero, suc, ◌<◌}
use native.Mathlib.Omega.{arith}
use lib.ListN.{length, get_or, get_elem?, length-map}
use Rattle.model.specs.Tree.{Tree, node, trees, forest, children_of, symbol_of, at, and_then}
use Rattle.model.specs.Table.{Row, row_at, tree_in, tree_at, Lower, Distinct}
use Rattle.model.proofs.Members.{map_same}

pub trees_forest : (ts : List Tree) → trees (forest ts) ≡ ts
trees_forest [] = refl
trees_forest (t ∷ ts) = ap {B = List Tree} (λ l. t ∷ l) (trees_forest ts)

get_elem_map : {A B : Type 0} (f : A → B) (d : A) (xs : List A) (j : ℕ) → j < length xs → get_elem? (map f xs) j ≡ some (f (get_or xs j d))
get_elem_map f d [] j h = let z : ⊥ = omega arith in absurd z
get_elem_map f d (x ∷ xs) zero h = refl
get_elem_map f d (x ∷ xs) (suc j) h = get_elem_map f d xs j (omega arith)

pub in_get_d : {A : Type 0} (d : A) (xs : List A) (j : ℕ) → j < length xs → In (get_or xs j d) xs
in_get_d d [] j h = let z : ⊥ = omega arith in absurd z
in_get_d d (x ∷ xs) zero h = here refl
in_get_d d (x ∷ xs) (suc j) h = there (in_get_d d xs j (omega arith))

pub map_inj : {A B : Type 0} (f : A → B) (xs ys : List A) → ((x y : A) → In x xs → In y ys → f x ≡ f y → x ≡ y) → map f xs ≡ map f ys → xs ≡ ys
map_inj f [] [] h e = refl
map_inj f [] (y ∷ ys) h e = absurd (nil≢cons e)
map_inj f (x ∷ xs) [] h e = absurd (cons≢nil e)
map_inj f (x ∷ xs) (y ∷ ys) h e =
    cc (
      h x y (here refl) (here refl) (head-eq_of_cons-eq e),
      map_inj f xs ys (λ a b m n. h a b (there m) (there n)) (tail-eq_of_cons-eq e),
    )

-- the subtree one step below a position
then_some : {A : Type 0} (o : Option A) → and_then o (λ u. some u) ≡ o
then_some none = refl
then_some (some a) = refl

pub at_step : (p : List ℕ) (t : Tree) (j : ℕ) → at t (p ++ j ∷ []) ≡ and_then (at t p) (λ u. get_elem? (children_of u) j)
at_step [] t j = then_some (get_elem? (children_of t) j)
at_step (i ∷ p) t j = go (get_elem? (children_of t) i) (λ u. at_step p u j)
  where
    go : (o : Option Tree) → ((u : Tree) → at u (p ++ j ∷ []) ≡ and_then (at u p) (λ v. get_elem? (children_of v) j)) → and_then o (λ u. at u (p ++ j ∷ [])) ≡ and_then (and_then o (λ u. at u p)) (λ v. get_elem? (children_of v) j)
    go none h = refl
    go (some u) h = h u

-- a position below a child: the child, and what is left of the way
pub at_below : (t : Tree) (f : ℕ → Tree) (cs : List ℕ) → children_of t ≡ map f cs → (j : ℕ) (p : List ℕ) (u : Tree) → at t (j ∷ p) ≡ some u → (j < length cs) × (at (f (get_or cs j 0)) p ≡ some u)
at_below t f cs e j p u h = go cs j (rw e at h)
  where
    go : (l : List ℕ) (j : ℕ) → and_then (get_elem? (map f l) j) (λ v. at v p) ≡ some u → (j < length l) × (at (f (get_or l j 0)) p ≡ some u)
    go [] j g = absurd (none-ne-some u g)
    go (c ∷ l) zero g = (omega arith, g)
    go (c ∷ l) (suc j) g = let r = go l j g in (omega arith, r.1)

abbrev pub kind_of : Tree → ℕ
kind_of (node s k p f) = k

abbrev pub payload_of : Tree → ℕ
payload_of (node s k p f) = p

module _ (rows : List Row) (lower : Lower rows) where
  fuel : (n m i : ℕ) → i < n → i < m → i < length rows → tree_in rows n i ≡ tree_in rows m i
  fuel zero m i h g l = let z : ⊥ = omega arith in absurd z
  fuel (suc n) zero i h g l = let z : ⊥ = omega arith in absurd z
  fuel (suc n) (suc m) i h g l =
      ap (λ ts. node (row_at rows i).symbol (row_at rows i).kind (row_at rows i).payload (forest ts))
      (map_same (tree_in rows n) (tree_in rows m) (row_at rows i).children
      (λ j k. let b = lower i l j k in fuel n m j (omega arith) (omega arith) (omega arith)))

  pub kids_tree : (i : ℕ) → i < length rows → children_of (tree_at rows i) ≡ map (tree_at rows) (row_at rows i).children
  kids_tree i l =
      trees_forest _
      ∙ map_same (tree_in rows i) (tree_at rows) (row_at rows i).children
      (λ j k. let b = lower i l j k in fuel i (suc j) j (omega arith) (omega arith) (omega arith))

  pub tree_eq : (i : ℕ) → i < length rows → tree_at rows i ≡ node (row_at rows i).symbol (row_at rows i).kind (row_at rows i).payload (forest (map (tree_at rows) (row_at rows i).children))
  tree_eq i l =
      ap (λ ts. node (row_at rows i).symbol (row_at rows i).kind (row_at rows i).payload (forest ts))
      (map_same (tree_in rows i) (tree_at rows) (row_at rows i).children
      (λ j k. let b = lower i l j k in fuel i (suc j) j (omega arith) (omega arith) (omega arith)))

  -- a child of a row's tree is the tree of that row's child
  pub kid_at : (i : ℕ) → i < length rows → (j : ℕ) → j < length (row_at rows i).children → get_elem? (children_of (tree_at rows i)) j ≡ some (tree_at rows (get_or (row_at rows i).children j 0))
  kid_at i l j h = ap (λ ts. get_elem? ts j) (kids_tree i l) ∙ get_elem_map (tree_at rows) 0 (row_at rows i).children j h

  -- rows without equals have trees without equals
  one_row : (i j : ℕ) → tree_at rows i ≡ tree_at rows j → (row_at rows i).children ≡ (row_at rows j).children → row_at rows i ≡ row_at rows j
  one_row i j e k = λ x. record { symbol = ap symbol_of e x; kind = ap kind_of e x; payload = ap payload_of e x; children = k x }

  pub one_tree : Distinct rows → (n i j : ℕ) → i < n → i < length rows → j < length rows → tree_at rows i ≡ tree_at rows j → i ≡ j
  one_tree d zero i j h l m e = let z : ⊥ = omega arith in absurd z
  one_tree d (suc n) i j h l m e =
      d i j l m
      (one_row i j e
      (map_inj (tree_at rows) (row_at rows i).children (row_at rows j).children
      (λ a b ia jb q.
      let la = lower i l a ia in
      let lb = lower j m b jb in
      one_tree d n a b (omega arith) (omega arith) (omega arith) q)
      (sym (kids_tree i l) ∙ ap children_of e ∙ kids_tree j m)))

  pub below : (i : ℕ) → i < length rows → (j : ℕ) (p : List ℕ) (u : Tree) → at (tree_at rows i) (j ∷ p) ≡ some u → (j < length (row_at rows i).children) × (at (tree_at rows (get_or (row_at rows i).children j 0)) p ≡ some u)
  below i l = at_below (tree_at rows i) (tree_at rows) (row_at rows i).children (kids_tree i l)

  pub as_many_kids : (i : ℕ) → i < length rows → length (children_of (tree_at rows i)) ≡ length (row_at rows i).children
  as_many_kids i l = ap length (kids_tree i l) ∙ length-map (row_at rows i).children (tree_at rows)

  -- a row's tree stands at a row's number once
  pub equal_trees : Distinct rows → (i j : ℕ) → i < length rows → j < length rows → (tree_at rows i ≡ tree_at rows j) ↔ (i ≡ j)
  equal_trees d i j l m = (one_tree d (suc i) i j (omega arith) l m, ap (tree_at rows))

  -- every subtree of a row's tree is a row's tree
  pub row_at_lem : (p : List ℕ) (i : ℕ) → i < length rows → (u : Tree) → at (tree_at rows i) p ≡ some u → (j : ℕ) × (j < length rows) × (u ≡ tree_at rows j)
  row_at_lem [] i l u e = (i, l, sym (some-injective _ _ e))
  row_at_lem (n ∷ p) i l u e =
      let (h, e') = below i l n p u e in
      let c = get_or (row_at rows i).children n 0 in
      let b = lower i l c (in_get_d 0 (row_at rows i).children n h) in
      row_at_lem p c (omega arith) u e'

  -- a position below a child is a position of the row's tree
  pub above : (i : ℕ) → i < length rows → (n : ℕ) → n < length (row_at rows i).children → (p : List ℕ) → at (tree_at rows i) (n ∷ p) ≡ at (tree_at rows (get_or (row_at rows i).children n 0)) p
  above i l n h p = ap (λ o. and_then o (λ u. at u p)) (kid_at i l n h)
