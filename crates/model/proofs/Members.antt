-- Membership in the lists that `specs/Lists.antt` and `specs/Table.antt` compute. Assumes nothing.
use mathlib.Core.Path.{◌≡◌, refl, sym, ap, ◌∙◌, subst}
use mathlib.Core.Logic.{◌⊎◌, inl, inr, ⊎_elim, ◌↔◌}
use mathlib.Core.List.Memᴰ
use mathlib.Core.List.Memᴰ.{append_cases as in_append}
use mathlib.Core.List.Memᴰ.{cases_cons as in_cons}
use mathlib.Core.List.Memᴰ.{eq_of_singleton}
use mathlib.Core.List.Memᴰ.{head as here}
use mathlib.Core.List.Memᴰ.{not-nil}
use mathlib.Core.List.Memᴰ.{tail as there}
use mathlib.Core.List.{List, [], ◌∷◌, ◌++◌, map, Memᴰ as In}
use mathlib.Core.Bool.{Bool, true, false, ◌&&◌, ◌||◌, cond}
use Prim.Native.Nat.{ℕ, zero, suc, ◌<◌}
use native.Mathlib.Omega.{arith}
use lib.Dec.{T, eqb, eqb→eq, eqb_refl}
use lib.ListN.{length, get_or}
use Rattle.model.specs.Lists.{concat_map, only, any, all, eq_list}
use Rattle.model.specs.Annotation.{Annotation, eq_annotation, add_new, memories}

pub T_and : (a b : Bool) → T (a && b) → T a × T b
T_and true b h = (tt, h)
T_and false b h = absurd h

pub and_T : (a b : Bool) → T a → T b → T (a && b)
and_T true b h g = g
and_T false b h g = absurd h

pub T_true : (b : Bool) → T b ↔ (b ≡ true)
T_true true = (λ h. refl, λ h. tt)
T_true false = (λ h. absurd h, λ h. subst T (sym h) tt)

pub or_left : (a b : Bool) → T a → T (a || b)
or_left true b h = tt
or_left false b h = absurd h

pub or_right : (a b : Bool) → T b → T (a || b)
or_right true b h = tt
or_right false b h = h

module _ {A B : Type 0} where
  pub in_concat_map : (f : A → List B) (xs : List A) {y : B} → In y (concat_map f xs) → (x : A) × In x xs × In y (f x)
  in_concat_map f [] h = absurd (not-nil h)
  in_concat_map f (x ∷ xs) h =
      ⊎_elim (λ a. (x, here refl, a)) (λ b. let r = in_concat_map f xs b in (r.0, there r.1, r.2)) (in_append (f x) h)

  pub concat_map_in : (f : A → List B) {x : A} {xs : List A} {y : B} → In x xs → In y (f x) → In y (concat_map f xs)
  concat_map_in f {y = y} (here e) h = Memᴰ.append_left _ (subst (λ z. In y (f z)) e h)
  concat_map_in f (there {x = z} m) h = Memᴰ.append_right (f z) (concat_map_in f m h)

  pub in_map : (f : A → B) (xs : List A) {y : B} → In y (map f xs) → (x : A) × In x xs × (y ≡ f x)
  in_map f [] h = absurd (not-nil h)
  in_map f (x ∷ xs) h =
      ⊎_elim (λ e. (x, here refl, e)) (λ b. let r = in_map f xs b in (r.0, there r.1, r.2)) (in_cons h)

  pub map_in : (f : A → B) {x : A} {xs : List A} → In x xs → In (f x) (map f xs)
  map_in f (here e) = here (ap f e)
  map_in f (there m) = there (map_in f m)

  pub map_same : (f g : A → B) (xs : List A) → ((x : A) → In x xs → f x ≡ g x) → map f xs ≡ map g xs
  map_same f g [] h = refl
  map_same f g (x ∷ xs) h = cc (h x (here refl), map_same f g xs (λ y m. h y (there m)))

module _ {A : Type 0} where
  pub in_only : (b : Bool) (xs : List A) {y : A} → In y (only b xs) → T b × In y xs
  in_only true xs h = (tt, h)
  in_only false xs h = absurd (not-nil h)

  pub only_in : (b : Bool) {xs : List A} {y : A} → T b → In y xs → In y (only b xs)
  only_in true t h = h
  only_in false t h = absurd t

  pub in_any : (f : A → Bool) (xs : List A) → T (any f xs) → (x : A) × In x xs × T (f x)
  in_any f [] h = absurd h
  in_any f (x ∷ xs) h = go (f x) refl h (λ g. in_any f xs g)
    where
      go : (b : Bool) → f x ≡ b → T (b || any f xs) → (T (any f xs) → (z : A) × In z xs × T (f z)) → (z : A) × In z (x ∷ xs) × T (f z)
      go true e g ih = (x, here refl, rw e tt)
      go false e g ih = let r = ih g in (r.0, there r.1, r.2)

  pub any_in : (f : A → Bool) {x : A} {xs : List A} → In x xs → T (f x) → T (any f xs)
  any_in f (here {x = y} {xs = ys} e) h = or_left (f y) (any f ys) (subst (λ z. T (f z)) e h)
  any_in f (there {x = y} {xs = ys} m) h = or_right (f y) (any f ys) (any_in f m h)

pub all_in : {A : Type 0} (f : A → Bool) (xs : List A) → T (all f xs) → {x : A} → In x xs → T (f x)
all_in f [] h m = absurd (not-nil m)
all_in f (y ∷ ys) h {x} m =
    let (one, more) = T_and (f y) (all f ys) h in
    ⊎_elim (λ e. subst (λ z. T (f z)) (sym e) one) (λ n. all_in f ys more n) (in_cons m)

pub in_all : {A : Type 0} (f : A → Bool) (xs : List A) → ((x : A) → In x xs → T (f x)) → T (all f xs)
in_all f [] h = tt
in_all f (y ∷ ys) h = and_T (f y) (all f ys) (h y (here refl)) (in_all f ys (λ x m. h x (there m)))

pub eq_list→eq : (a b : List ℕ) → T (eq_list a b) → a ≡ b
eq_list→eq [] [] h = refl
eq_list→eq [] (y ∷ ys) h = absurd h
eq_list→eq (x ∷ xs) [] h = absurd h
eq_list→eq (x ∷ xs) (y ∷ ys) h = let g = T_and (eqb x y) (eq_list xs ys) h in cc (eqb→eq x y g.0, eq_list→eq xs ys g.1)

pub eq_list_refl : (a : List ℕ) → T (eq_list a a)
eq_list_refl [] = tt
eq_list_refl (x ∷ xs) = and_T (eqb x x) (eq_list xs xs) (eqb_refl x) (eq_list_refl xs)

pub eq_annotation→eq : (a b : Annotation) → T (eq_annotation a b) → a ≡ b
eq_annotation→eq a b h =
    let g = T_and (eqb a.row b.row) (eqb a.state b.state && eq_list a.memory b.memory) h in
    let g' = T_and (eqb a.state b.state) (eq_list a.memory b.memory) g.1 in
    λ i. record { row = eqb→eq a.row b.row g.0 i; state = eqb→eq a.state b.state g'.0 i; memory = eq_list→eq a.memory b.memory g'.1 i }

-- what `add_new` holds: no more than what was known and what is added, and all of both
pub in_add_new : (as' known : List Annotation) {y : Annotation} → In y (add_new known as') → In y known ⊎ In y as'
in_add_new [] known h = inl h
in_add_new (a ∷ as') known {y = y} h = go (any (eq_annotation a) known) (in_add_new as' _ h)
  where
    go : (b : Bool) → In y (cond b known (known ++ a ∷ [])) ⊎ In y as' → In y known ⊎ In y (a ∷ as')
    go true (inl g) = inl g
    go false (inl g) = ⊎_elim inl (λ m. inr (here (eq_of_singleton m))) (in_append known g)
    go true (inr g) = inr (there g)
    go false (inr g) = inr (there g)

pub add_new_known : (as' known : List Annotation) {y : Annotation} → In y known → In y (add_new known as')
add_new_known [] known h = h
add_new_known (a ∷ as') known {y = y} h = add_new_known as' _ (go (any (eq_annotation a) known))
  where
    go : (b : Bool) → In y (cond b known (known ++ a ∷ []))
    go true = h
    go false = Memᴰ.append_left _ h

pub add_new_new : (as' known : List Annotation) {y : Annotation} → In y as' → In y (add_new known as')
add_new_new [] known h = absurd (not-nil h)
add_new_new (a ∷ as') known {y = y} h =
    ⊎_elim (λ e. add_new_known as' _ (go (any (eq_annotation a) known) refl e)) (λ m. add_new_new as' _ m) (in_cons h)
  where
    go : (b : Bool) → any (eq_annotation a) known ≡ b → y ≡ a → In y (cond b known (known ++ a ∷ []))
    go true e q = let r = in_any (eq_annotation a) known (rw e tt) in Memᴰ.cast (q ∙ eq_annotation→eq a r.0 r.2) r.1
    go false e q = Memᴰ.append_right known (here q)

-- the memories of a row in a state
pub in_memories : (known : List Annotation) (c q : ℕ) {m : List ℕ} → In m (memories known c q) → (a : Annotation) × In a known × (a.row ≡ c) × (a.state ≡ q) × (m ≡ a.memory)
in_memories [] c q h = absurd (not-nil h)
in_memories (a ∷ known) c q {m = m} h = ⊎_elim first (λ g. let r = in_memories known c q g in (r.0, there r.1, r.2, r.3, r.4)) (in_append _ h)
  where
    first : In m (only (eqb a.row c && eqb a.state q) (a.memory ∷ [])) → (b : Annotation) × In b (a ∷ known) × (b.row ≡ c) × (b.state ≡ q) × (m ≡ b.memory)
    first g =
        let w = in_only (eqb a.row c && eqb a.state q) _ g in
        let v = T_and (eqb a.row c) (eqb a.state q) w.0 in
        (a, here refl, eqb→eq a.row c v.0, eqb→eq a.state q v.1, eq_of_singleton w.1)

pub memories_in : {a : Annotation} {known : List Annotation} → In a known → (c q : ℕ) → a.row ≡ c → a.state ≡ q → In a.memory (memories known c q)
memories_in {a = a} (here {x = b} e) c q er eq =
    Memᴰ.append_left _ (only_in (eqb b.row c && eqb b.state q)
    (and_T (eqb b.row c) (eqb b.state q) (rw (← er, e) (eqb_refl b.row)) (rw (← eq, e) (eqb_refl b.state))) (here (ap (λ z. z.memory) e)))
memories_in (there {x = b} m) c q er eq = Memᴰ.append_right (only (eqb b.row c && eqb b.state q) (b.memory ∷ [])) (memories_in m c q er eq)

pub eq_annotation_refl : (a : Annotation) → T (eq_annotation a a)
eq_annotation_refl a =
    and_T (eqb a.row a.row) (eqb a.state a.state && eq_list a.memory a.memory) (eqb_refl a.row)
    (and_T (eqb a.state a.state) (eq_list a.memory a.memory) (eqb_refl a.state) (eq_list_refl a.memory))

-- a mapped list at a place, whatever stands past its end
pub map_at : {A B : Type 0} (f : A → B) (a : A) (d : B) (xs : List A) (j : ℕ) → j < length xs → get_or (map f xs) j d ≡ f (get_or xs j a)
map_at f a d [] j l = let z : ⊥ = omega arith in absurd z
map_at f a d (x ∷ xs) zero l = refl
map_at f a d (x ∷ xs) (suc j) l = map_at f a d xs j (omega arith)
