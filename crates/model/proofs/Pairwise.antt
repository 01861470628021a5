-- Lists in which each earlier member stands in a relation to each later one. Assumes nothing.
use mathlib.Core.Path.{◌≡◌, refl, sym, subst}
use mathlib.Core.Logic.{⊎_elim}
use mathlib.Core.List.Memᴰ.{append_cases as in_append}
use mathlib.Core.List.Memᴰ.{head as here}
use mathlib.Core.List.Memᴰ.{tail as there}
use mathlib.Core.List.{List, [], ◌∷◌, ◌++◌, map, Memᴰ as In}
use Prim.Native.Nat.{ℕ, zero, suc, ◌<◌}
use native.Mathlib.Omega.{arith}
use lib.ListN.{length, get_or}
use Rattle.model.specs.Lists.{concat_map}
use Rattle.model.proofs.Members.{in_map, in_concat_map}
use Rattle.model.proofs.Rows.{in_get_d}

abbrev pub Pairwise : {A : Type 0} → (A → A → Type 0) → List A → Type 0
Pairwise R [] = Unit {0}
Pairwise {A} R (x ∷ xs) = ((y : A) → In y xs → R x y) × Pairwise R xs

-- a member has an index
pub in_index : {A : Type 0} (d : A) {y : A} {xs : List A} → In y xs → (j : ℕ) × (j < length xs) × (get_or xs j d ≡ y)
in_index d (here e) = (0, omega arith, sym e)
in_index d (there m) = let (j, l, e) = in_index d m in (suc j, omega arith, e)

module _ {A : Type 0} (R : A → A → Type 0) where
  pub pairwise_at : (d : A) (xs : List A) → Pairwise R xs → (i j : ℕ) → i < j → j < length xs → R (get_or xs i d) (get_or xs j d)
  pairwise_at d [] h i j a b = let z : ⊥ = omega arith in absurd z
  pairwise_at d (x ∷ xs) h i zero a b = let z : ⊥ = omega arith in absurd z
  pairwise_at d (x ∷ xs) h zero (suc j) a b = h.0 (get_or xs j d) (in_get_d d xs j (omega arith))
  pairwise_at d (x ∷ xs) h (suc i) (suc j) a b = pairwise_at d xs h.1 i j (omega arith) (omega arith)

  pub at_pairwise : (d : A) (xs : List A) → ((i j : ℕ) → i < j → j < length xs → R (get_or xs i d) (get_or xs j d)) → Pairwise R xs
  at_pairwise d [] h = tt
  at_pairwise d (x ∷ xs) h = (
    λ y m. let (j, l, e) = in_index d m in subst (R x) e (h 0 (suc j) (omega arith) (omega arith)),
    at_pairwise d xs (λ i j a b. h (suc i) (suc j) (omega arith) (omega arith)),
  )

  pub pairwise_append : (xs ys : List A) → Pairwise R xs → Pairwise R ys → ((x y : A) → In x xs → In y ys → R x y) → Pairwise R (xs ++ ys)
  pairwise_append [] ys h g c = g
  pairwise_append (x ∷ xs) ys h g c = (
    λ y m. ⊎_elim (h.0 y) (c x y (here refl)) (in_append xs m),
    pairwise_append xs ys h.1 g (λ a b m n. c a b (there m) n),
  )

module _ {A B : Type 0} (R : A → A → Type 0) (S : B → B → Type 0) where
  pub pairwise_map : (f : A → B) (xs : List A) → ((x y : A) → In x xs → In y xs → R x y → S (f x) (f y)) → Pairwise R xs → Pairwise S (map f xs)
  pairwise_map f [] c h = tt
  pairwise_map f (x ∷ xs) c h = (
    λ b m. let (y, n, e) = in_map f xs m in subst (S (f x)) (sym e) (c x y (here refl) (there n) (h.0 y n)),
    pairwise_map f xs (λ a b m n. c a b (there m) (there n)) h.1,
  )

  pub pairwise_concat_map : (f : A → List B) (xs : List A) → ((x : A) → In x xs → Pairwise S (f x)) → ((x y : A) → In x xs → In y xs → R x y → (a b : B) → In a (f x) → In b (f y) → S a b) → Pairwise R xs → Pairwise S (concat_map f xs)
  pairwise_concat_map f [] each c h = tt
  pairwise_concat_map f (x ∷ xs) each c h =
      pairwise_append S (f x) (concat_map f xs) (each x (here refl))
      (pairwise_concat_map f xs (λ y m. each y (there m)) (λ y z m n. c y z (there m) (there n)) h.1)
      (λ a b m n. let (y, o, q) = in_concat_map f xs n in c x y (here refl) (there o) (h.0 y o) a b m q)

-- a weaker relation
pub pairwise_weaken : {A : Type 0} (R S : A → A → Type 0) (xs : List A) → ((x y : A) → R x y → S x y) → Pairwise R xs → Pairwise S xs
pairwise_weaken R S [] c h = tt
pairwise_weaken R S (x ∷ xs) c h = (λ y m. c x y (h.0 y m), pairwise_weaken R S xs c h.1)
