-- Memories: what two that agree are when joined. Assumes nothing.
use mathlib.Core.Path.{◌≡◌, refl, sym, ap, subst}
use mathlib.Core.Logic.{◌⊎◌, inl, inr}
use mathlib.Core.List.{List, [], ◌∷◌}
use mathlib.Core.Bool.{Bool, true, false, cond}
use Prim.Native.Nat.{ℕ, zero, suc}
use native.Mathlib.Omega.{arith}
use native.Mathlib.Nat.{suc_inj}
use lib.Dec.{T, eqb, eqb→eq, eqb_refl}
use lib.ListN.{length, get_or}
use lib.Seq.{ext_get_or}
use Rattle.model.specs.Annotation.{places_agree, joined_place, agree?, joined}
use Rattle.model.proofs.Members.{T_and, and_T}

-- `m` says of each tag no more than `x`
abbrev pub Within : List ℕ → List ℕ → Type 0
Within m x = (k j : ℕ) → get_or m k 0 ≡ suc j → get_or x k 0 ≡ suc j

pub within_left : (a b : List ℕ) → Within a (joined a b)
within_left [] b k j h = let z : ⊥ = omega arith in absurd z
within_left (x ∷ a) [] k j h = h
within_left (x ∷ a) (y ∷ b) zero j h = first x h
  where
    first : (x : ℕ) → x ≡ suc j → joined_place x y ≡ suc j
    first zero e = let z : ⊥ = omega arith in absurd z
    first (suc x) e = e
within_left (x ∷ a) (y ∷ b) (suc k) j h = within_left a b k j h

pub within_right : (a b : List ℕ) → T (agree? a b) → Within b (joined a b)
within_right [] b t k j h = h
within_right (x ∷ a) [] t k j h = let z : ⊥ = omega arith in absurd z
within_right (x ∷ a) (y ∷ b) t zero j h = first x y (T_and (places_agree x y) (agree? a b) t).0 h
  where
    first : (x y : ℕ) → T (places_agree x y) → y ≡ suc j → joined_place x y ≡ suc j
    first zero y c e = e
    first (suc x) zero c e = let z : ⊥ = omega arith in absurd z
    first (suc x) (suc y) c e = let q = eqb→eq x y c in omega arith
within_right (x ∷ a) (y ∷ b) t (suc k) j h = within_right a b (T_and (places_agree x y) (agree? a b) t).1 k j h

-- a joined memory's entry comes from one of the two
pub joined_from : (a b : List ℕ) (k j : ℕ) → get_or (joined a b) k 0 ≡ suc j → (get_or a k 0 ≡ suc j) ⊎ (get_or b k 0 ≡ suc j)
joined_from [] b k j h = inr h
joined_from (x ∷ a) [] k j h = inl h
joined_from (x ∷ a) (y ∷ b) zero j h = first x h
  where
    first : (x : ℕ) → joined_place x y ≡ suc j → (x ≡ suc j) ⊎ (y ≡ suc j)
    first zero e = inr e
    first (suc x) e = inl e
joined_from (x ∷ a) (y ∷ b) (suc k) j h = joined_from a b k j h

pub agree_of : (a b : List ℕ) → ((k j j' : ℕ) → get_or a k 0 ≡ suc j → get_or b k 0 ≡ suc j' → j ≡ j') → T (agree? a b)
agree_of [] b h = tt
agree_of (x ∷ a) [] h = tt
agree_of (x ∷ a) (y ∷ b) h = and_T (places_agree x y) (agree? a b) (first x y (h zero)) (agree_of a b (λ k. h (suc k)))
  where
    first : (x y : ℕ) → ((j j' : ℕ) → x ≡ suc j → y ≡ suc j' → j ≡ j') → T (places_agree x y)
    first zero y g = tt
    first (suc x) zero g = tt
    first (suc x) (suc y) g = subst (λ z. T (eqb x z)) (g x y refl refl) (eqb_refl x)

pub cond_from : (b : Bool) (i j : ℕ) → cond b (suc i) 0 ≡ suc j → T b × (i ≡ j)
cond_from true i j h = (tt, omega arith)
cond_from false i j h = let z : ⊥ = omega arith in absurd z

pub cond_at : (b : Bool) (i : ℕ) → T b → cond b (suc i) 0 ≡ suc i
cond_at true i h = refl
cond_at false i h = absurd h

-- a place that is dropped, or not
pub drop_from : (b : Bool) (x j : ℕ) → cond b 0 x ≡ suc j → (T b → ⊥) × (x ≡ suc j)
drop_from true x j h = let z : ⊥ = omega arith in absurd z
drop_from false x j h = (λ t. t, h)

pub drop_other : (b : Bool) (x : ℕ) → (T b → ⊥) → cond b 0 x ≡ x
drop_other true x h = absurd (h tt)
drop_other false x h = refl

pub length_joined : (a b : List ℕ) → length a ≡ length b → length (joined a b) ≡ length b
length_joined [] b h = refl
length_joined (x ∷ a) [] h = h
length_joined (x ∷ a) (y ∷ b) h = ap suc (length_joined a b (suc_inj h))

-- memories of one width that say the same are equal
pub same_memory : (a b : List ℕ) → length a ≡ length b → Within a b → Within b a → a ≡ b
same_memory a b e w v = ext_get_or 0 a b e (λ k l. one (get_or a k 0) (get_or b k 0) (w k) (v k))
  where
    one : (x y : ℕ) → ((j : ℕ) → x ≡ suc j → y ≡ suc j) → ((j : ℕ) → y ≡ suc j → x ≡ suc j) → x ≡ y
    one zero zero f g = refl
    one zero (suc y) f g = g y refl
    one (suc x) y f g = sym (f x refl)
