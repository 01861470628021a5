-- Memories place by place: what two lists made of functions of the index have in common, as one test over the index. Assumes nothing.
use mathlib.Core.Path.{◌≡◌, refl, sym, ap, ◌∙◌}
use mathlib.Core.List.{List, [], ◌∷◌}
use mathlib.Core.Bool.{Bool, true, false, ◌&&◌}
use Prim.Native.Nat.{ℕ, zero, suc, ◌+◌, ◌<◌, ◌≤◌}
use native.Mathlib.Omega.{arith}
use native.Mathlib.Decide.{ℕ_discrete}
use borrow.Author.Rules.{rules}
use lib.Dec.{eqb, eqb-suc-suc}
use lib.ListN.{length, get_or, set, length-set, take}
use lib.Pointwise.{pointwise}
use lib.Seq.{get_or-set_same, get_or-set_other}
use Rattle.model.specs.Lists.{eq_list, tab, all_below}
use Rattle.model.specs.Annotation.{places_agree, joined_place, agree?, joined}
use Rattle.automaton.proofs.Parts.{tab_same}
use Rattle.membership.specs.Cells.{memory_of, JoinedIn}

and_assoc : (a b c : Bool) → (a && (b && c)) ≡ ((a && b) && c)
and_assoc true b c = refl
and_assoc false b c = refl

and_true : (a : Bool) → (true && a) ≡ (a && true)
and_true true = refl
and_true false = refl

-- the first index apart
all_front : (n : ℕ) (p : ℕ → Bool) → all_below (suc n) p ≡ (p 0 && all_below n (λ k. p (suc k)))
unfolding all_below
all_front zero p = and_true (p 0)
all_front (suc n) p = ap (λ b. b && p (suc n)) (all_front n p) ∙ sym (and_assoc (p 0) (all_below n (λ k. p (suc k))) (p (suc n)))

agree_tab : (n : ℕ) (f g : ℕ → ℕ) → agree? (tab n f) (tab n g) ≡ all_below n (λ k. places_agree (f k) (g k))
unfolding all_below
agree_tab zero f g = refl
agree_tab (suc n) f g = ap (λ b. places_agree (f 0) (g 0) && b) (agree_tab n (λ k. f (suc k)) (λ k. g (suc k))) ∙ sym (all_front n (λ k. places_agree (f k) (g k)))

same_tab : (n : ℕ) (f g : ℕ → ℕ) → eq_list (tab n f) (tab n g) ≡ all_below n (λ k. eqb (f k) (g k))
unfolding all_below
same_tab zero f g = refl
same_tab (suc n) f g = ap (λ b. eqb (f 0) (g 0) && b) (same_tab n (λ k. f (suc k)) (λ k. g (suc k))) ∙ sym (all_front n (λ k. eqb (f k) (g k)))

pub joined_tab : (n : ℕ) (f g : ℕ → ℕ) → joined (tab n f) (tab n g) ≡ tab n (λ k. joined_place (f k) (g k))
joined_tab zero f g = refl
joined_tab (suc n) f g = ap (λ (l : List ℕ). joined_place (f 0) (g 0) ∷ l) (joined_tab n (λ k. f (suc k)) (λ k. g (suc k)))

-- two memories in cells: whether they agree, whether they are the same
abbrev pub agree_at : List ℕ → List ℕ → ℕ → Bool
agree_at a b k = places_agree (get_or a k 0) (get_or b k 0)

abbrev pub same_at : List ℕ → List ℕ → ℕ → Bool
same_at a b k = eqb (get_or a k 0) (get_or b k 0)

module _ (tags : ℕ) (a b : List ℕ) where
  pub agree_places : agree? (memory_of tags a) (memory_of tags b) ≡ all_below tags (agree_at a b)
  unfolding memory_of
  agree_places = agree_tab tags (λ k. get_or a k 0) (λ k. get_or b k 0)

  pub same_places : eq_list (memory_of tags a) (memory_of tags b) ≡ all_below tags (same_at a b)
  unfolding memory_of
  same_places = same_tab tags (λ k. get_or a k 0) (λ k. get_or b k 0)

  -- a third, place by place the two joined
  pub join_places : (out : List ℕ) → ((k : ℕ) → k < tags → get_or out k 0 ≡ joined_place (get_or a k 0) (get_or b k 0)) → memory_of tags out ≡ joined (memory_of tags a) (memory_of tags b)
  unfolding memory_of
  join_places out h = tab_same tags (λ k. get_or out k 0) (λ k. joined_place (get_or a k 0) (get_or b k 0)) h ∙ sym (joined_tab tags (λ k. get_or a k 0) (λ k. get_or b k 0))

-- the comparison of two fronts, as the code asks it
compared : (xs ys : List ℕ) → pointwise eqb xs ys ≡ eq_list xs ys
compared [] [] = refl
compared [] (y ∷ ys) = refl
compared (x ∷ xs) [] = refl
compared (x ∷ xs) (y ∷ ys) = ap (λ b. eqb x y && b) (compared xs ys)

front : (n : ℕ) (l : List ℕ) → n ≤ length l → take n l ≡ memory_of n l
unfolding memory_of
front zero l h = refl
front (suc n) [] h = let z : ⊥ = omega arith in absurd z
front (suc n) (x ∷ l) h = ap (λ (t : List ℕ). x ∷ t) (front n l (omega arith))

pub same_fronts : (tags : ℕ) (a b : List ℕ) (r : Bool) → tags ≤ length a → tags ≤ length b → r ≡ pointwise eqb (take tags a) (take tags b) → r ≡ eq_list (memory_of tags a) (memory_of tags b)
same_fronts tags a b r la lb e = e ∙ compared (take tags a) (take tags b) ∙ (λ x. eq_list (front tags a la x) (front tags b lb x))

-- a loop that joins a and b, place by place: what it knows at its head
pub record Joining (a b out : List ℕ) (k : ℕ) : Type 0 where
  pub inside : k ≤ 16
  pub wide : length out ≡ 16
  pub done : (j : ℕ) → j < k → get_or out j 0 ≡ joined_place (get_or a j 0) (get_or b j 0)

module _ (a b : List ℕ) where
  pub joining_none : (out : List ℕ) → length out ≡ 16 → Joining a b out 0
  joining_none out e = record { inside = omega arith; wide = e; done = λ j l. let z : ⊥ = omega arith in absurd z }

  pub joining_more : (out : List ℕ) (k v : ℕ) → Joining a b out k → k < 16 → v ≡ joined_place (get_or a k 0) (get_or b k 0) → Joining a b (set out k v) (k + 1)
  joining_more out k v h l e =
      record { inside = omega arith; wide = length-set out k v ∙ h.wide; done = λ j m. go j m (ℕ_discrete j k) }
    where
      go : (j : ℕ) → j < k + 1 → Dec (j ≡ k) → get_or (set out k v) j 0 ≡ joined_place (get_or a j 0) (get_or b j 0)
      go j m (yes q) = rw q (get_or-set_same out k v 0 (omega (arith, h.wide)) ∙ e)
      go j m (no q) = get_or-set_other out k j v 0 q ∙ h.done j (omega (arith, q))

  pub joining_all : (out : List ℕ) (k : ℕ) → Joining a b out k → 16 ≤ k → JoinedIn a b out
  joining_all out k h l tags few = join_places tags a b out (λ j m. h.done j (omega arith))

-- places by their tests
pub agree_none : (x y : ℕ) → (x ≡ 0 → ⊥) → y ≡ 0 → true ≡ places_agree x y
agree_none zero y n e = absurd (n refl)
agree_none (suc x) zero n e = refl
agree_none (suc x) (suc y) n e = let z : ⊥ = omega arith in absurd z

pub agree_both : (x y : ℕ) → (x ≡ 0 → ⊥) → (y ≡ 0 → ⊥) → eqb x y ≡ places_agree x y
agree_both zero y n e = absurd (n refl)
agree_both (suc x) zero n e = absurd (e refl)
agree_both (suc x) (suc y) n e = eqb-suc-suc x y

pub join_some : (x y : ℕ) → (x ≡ 0 → ⊥) → x ≡ joined_place x y
join_some zero y n = absurd (n refl)
join_some (suc x) y n = refl

pub ruleset places = (agree_none, agree_both, join_some, rules)

pub ruleset joins = (joining_none, joining_more, joining_all, rules)
