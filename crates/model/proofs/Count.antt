-- Counting: a list without repeats, and no more numbers than values where each number has a value of its own. Assumes nothing.
use mathlib.Core.Path.{◌≡◌, refl, sym, ap, ◌∙◌, subst}
use mathlib.Core.Logic.{◌⊎◌, inl, inr, ⊎_elim}
use mathlib.Core.List.Memᴰ
use mathlib.Core.List.Memᴰ.{cases_cons as in_cons}
use mathlib.Core.List.Memᴰ.{head as here}
use mathlib.Core.List.Memᴰ.{tail as there}
use mathlib.Core.List.{List, [], ◌∷◌, ◌++◌, Memᴰ as In}
use mathlib.Core.Bool.{Bool, true, false}
use Prim.Native.Nat.{ℕ, zero, suc, ◌<◌, ◌≤◌, zero-le}
use native.Mathlib.Omega.{arith}
use native.Mathlib.Nat.{eq-or-lt_of_le}
use lib.Dec.{T}
use lib.ListN.{length, get_or, length-append, get_or-append}
use lib.Seq.{get_or-append_seam}
use Rattle.model.specs.Lists.{all, all_below}
use Rattle.model.proofs.Members.{T_true, all_in, in_all}
use Rattle.model.proofs.Below.{all_at, all_of}
use Rattle.model.proofs.Rows.{in_get_d}

module _ {B : Type 0} where
  pub place_of_lem : (d : B) {x : B} {xs : List B} → In x xs → (i : ℕ) × (i < length xs) × (get_or xs i d ≡ x)
  place_of_lem d (here e) = (0, omega arith, sym e)
  place_of_lem d (there m) = let (i, l, e) = place_of_lem d m in (suc i, omega arith, e)

  -- a list without one of its values
  without : {y : B} {ys : List B} → In y ys → (rest : List B) × (length ys ≡ suc (length rest)) × ((z : B) → In z ys → (z ≡ y) ⊎ In z rest)
  without (here {xs = xs} e) = (xs, refl, λ z h. ⊎_elim (λ e'. inl (e' ∙ sym e)) inr (in_cons h))
  without (there {x = x} m) =
      let (rest, e, back) = without m in
      (x ∷ rest, ap suc e, λ z h. ⊎_elim (λ e'. inr (here e')) (λ g. ⊎_elim inl (λ g'. inr (there g')) (back z g)) (in_cons h))

  -- THE LAW: where each number below n has a value of the list, and no two have the same, n is at most the list's length.
  pub pigeonhole : (R : ℕ → B → Type 0) (n : ℕ) (ys : List B) → ((i : ℕ) → i < n → (y : B) × In y ys × R i y) → ((i j : ℕ) (y : B) → i < n → j < n → R i y → R j y → i ≡ j) → n ≤ length ys
  pigeonhole R zero ys f one = zero-le
  pigeonhole R (suc n) ys f one =
      let (y, iy, r) = f n (omega arith) in
      let (rest, e, back) = without iy in
      let fewer =
      pigeonhole R n rest
      (λ i l.
      let (z, iz, s) = f i (omega arith) in
      ⊎_elim (λ q. let same = one i n y (omega arith) (omega arith) (subst (R i) q s) r in let w : ⊥ = omega arith in absurd w) (λ g. (z, g, s)) (back z iz))
      (λ i j z li lj. one i j z (omega arith) (omega arith)) in
      omega arith

  -- two places that hold the same value are the same place
  abbrev pub NoRepeats : B → List B → Type 0
  NoRepeats d l = (i j : ℕ) → i < length l → j < length l → get_or l i d ≡ get_or l j d → i ≡ j

  pub one_more : (d : B) (l : List B) (a : B) → NoRepeats d l → (In a l → ⊥) → NoRepeats d (l ++ a ∷ [])
  one_more d l a h new i j li lj =
      let n = length-append l (a ∷ []) in
      let li' : i ≤ length l = omega arith in
      let lj' : j ≤ length l = omega arith in
      cases (eq-or-lt_of_le li') (eq-or-lt_of_le lj')
    where
      old : (i : ℕ) → i < length l → get_or (l ++ a ∷ []) i d ≡ get_or l i d
      old i li = get_or-append l (a ∷ []) d i li

      last : (i : ℕ) → i ≡ length l → get_or (l ++ a ∷ []) i d ≡ a
      last i e = ap (λ z. get_or (l ++ a ∷ []) z d) e ∙ get_or-append_seam l a [] d

      cases : {i j : ℕ} → (i ≡ length l) ⊎ (i < length l) → (j ≡ length l) ⊎ (j < length l) → get_or (l ++ a ∷ []) i d ≡ get_or (l ++ a ∷ []) j d → i ≡ j
      cases (inl e) (inl e') q = e ∙ sym e'
      cases {i} {j} (inl e) (inr g) q = absurd (new (Memᴰ.cast (sym (last i e) ∙ q ∙ old j g) (in_get_d d l j g)))
      cases {i} {j} (inr g) (inl e) q = absurd (new (Memᴰ.cast (sym (last j e) ∙ sym q ∙ old i g) (in_get_d d l i g)))
      cases {i} {j} (inr g) (inr g') q = h i j g g' (sym (old i g) ∙ q ∙ old j g')

  -- a list without repeats whose values all stand in another is not longer
  pub no_longer : (d : B) (xs ys : List B) → NoRepeats d xs → ((x : B) → In x xs → In x ys) → length xs ≤ length ys
  no_longer d xs ys once h =
      pigeonhole (λ i y. get_or xs i d ≡ y) (length xs) ys (λ i l. (get_or xs i d, h (get_or xs i d) (in_get_d d xs i l), refl)) (λ i j y li lj e e'. once i j li lj (e ∙ sym e'))

-- a test of each of a list, asked index by index
same_test : (a b : Bool) → (T a → T b) → (T b → T a) → a ≡ b
same_test true b h g = sym ((T_true b).0 (h tt))
same_test false true h g = absurd (g tt)
same_test false false h g = refl

pub all_below_lem : {B : Type 0} (f : B → Bool) (d : B) (xs : List B) → all_below (length xs) (λ i. f (get_or xs i d)) ≡ all f xs
all_below_lem f d xs =
    same_test (all_below (length xs) (λ i. f (get_or xs i d))) (all f xs)
    (λ h. in_all f xs (λ x m. let (i, l, e) = place_of_lem d m in subst (λ z. T (f z)) e (all_at (length xs) (λ i. f (get_or xs i d)) h i l)))
    (λ h. all_of (length xs) (λ i. f (get_or xs i d)) (λ i l. all_in f xs h (in_get_d d xs i l)))
