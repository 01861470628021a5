-- Agreement and joining of memories: with two that are joined, in either order, joined in turn, and with tags dropped on either side. Assumes nothing.
use mathlib.Core.Path.{◌≡◌, refl, sym, ap, ◌∙◌, subst}
use mathlib.Core.List.{[], ◌∷◌}
use mathlib.Core.Bool.{Bool, true, false, cond}
use Prim.Native.Nat.{ℕ, zero, suc, ◌<◌, ◌≤◌}
use native.Mathlib.Omega.{arith}
use native.Mathlib.Decide.{dec_lt}
use lib.Dec.{T, eqb, eqb→eq, eqb_refl}
use lib.ListN.{get_or}
use Rattle.model.specs.Lists.{tab}
use Rattle.model.specs.Automaton.{bit?}
use Rattle.model.specs.Annotation.{Memory, places_agree, joined_place, agree?, joined}
use Rattle.model.proofs.Members.{T_and, and_T}
use Rattle.model.proofs.Tab.{tab_at, tab_past}
use Rattle.automaton.proofs.Parts.{tab_same}
use Rattle.membership.specs.Cells.{without}
use Rattle.membership.proofs.Places.{joined_tab}

-- two tests that hold together are one
pub same_test : (a b : Bool) → (T a → T b) → (T b → T a) → a ≡ b
same_test true true h g = refl
same_test true false h g = absurd (h tt)
same_test false true h g = absurd (g tt)
same_test false false h g = refl

-- place by place
place_zero : (x : ℕ) → T (places_agree x 0)
place_zero zero = tt
place_zero (suc x) = tt

place_swap : (x y : ℕ) → T (places_agree x y) → T (places_agree y x)
place_swap zero y t = place_zero y
place_swap (suc x) zero t = tt
place_swap (suc x) (suc y) t = subst (λ z. T (eqb y z)) (sym (eqb→eq x y t)) (eqb_refl y)

place_first : (a b x : ℕ) → T (places_agree (joined_place a b) x) → T (places_agree a x)
place_first zero b x t = tt
place_first (suc a) b x t = t

place_second : (a b x : ℕ) → T (places_agree a b) → T (places_agree (joined_place a b) x) → T (places_agree b x)
place_second zero b x s t = t
place_second (suc a) zero x s t = tt
place_second (suc a) (suc b) x s t = subst (λ z. T (places_agree (suc z) x)) (eqb→eq a b s) t

place_both : (a b x : ℕ) → T (places_agree a x) → T (places_agree b x) → T (places_agree (joined_place a b) x)
place_both zero b x s t = t
place_both (suc a) b x s t = s

-- memories that agree do so at each place, and the other way round
pub agree_at : (a b : Memory) → T (agree? a b) → (k : ℕ) → T (places_agree (get_or a k 0) (get_or b k 0))
agree_at [] b t k = tt
agree_at (x ∷ a) [] t k = place_zero (get_or (x ∷ a) k 0)
agree_at (x ∷ a) (y ∷ b) t zero = (T_and (places_agree x y) (agree? a b) t).0
agree_at (x ∷ a) (y ∷ b) t (suc k) = agree_at a b (T_and (places_agree x y) (agree? a b) t).1 k

pub agree_all : (a b : Memory) → ((k : ℕ) → T (places_agree (get_or a k 0) (get_or b k 0))) → T (agree? a b)
agree_all [] b h = tt
agree_all (x ∷ a) [] h = tt
agree_all (x ∷ a) (y ∷ b) h = and_T (places_agree x y) (agree? a b) (h 0) (agree_all a b (λ k. h (suc k)))

pub joined_at : (a b : Memory) (k : ℕ) → get_or (joined a b) k 0 ≡ joined_place (get_or a k 0) (get_or b k 0)
joined_at [] b k = refl
joined_at (x ∷ a) [] k = go (get_or (x ∷ a) k 0)
  where
    go : (z : ℕ) → z ≡ joined_place z 0
    go zero = refl
    go (suc z) = refl
joined_at (x ∷ a) (y ∷ b) zero = refl
joined_at (x ∷ a) (y ∷ b) (suc k) = joined_at a b k

module _ (a b : Memory) where
  pub agree_swap : T (agree? a b) → T (agree? b a)
  agree_swap t = agree_all b a (λ k. place_swap (get_or a k 0) (get_or b k 0) (agree_at a b t k))

  module _ (x : Memory) where
    -- a third memory agrees with two joined where it agrees with each
    pub agree_first : T (agree? (joined a b) x) → T (agree? a x)
    agree_first t = agree_all a x (λ k. place_first (get_or a k 0) (get_or b k 0) (get_or x k 0) (subst (λ z. T (places_agree z (get_or x k 0))) (joined_at a b k) (agree_at (joined a b) x t k)))

    pub agree_second : T (agree? a b) → T (agree? (joined a b) x) → T (agree? b x)
    agree_second s t = agree_all b x (λ k. place_second (get_or a k 0) (get_or b k 0) (get_or x k 0) (agree_at a b s k) (subst (λ z. T (places_agree z (get_or x k 0))) (joined_at a b k) (agree_at (joined a b) x t k)))

    pub agree_both : T (agree? a x) → T (agree? b x) → T (agree? (joined a b) x)
    agree_both s t = agree_all (joined a b) x (λ k. subst (λ z. T (places_agree z (get_or x k 0))) (sym (joined_at a b k)) (place_both (get_or a k 0) (get_or b k 0) (get_or x k 0) (agree_at a x s k) (agree_at b x t k)))

pub agree_self : (a : Memory) → T (agree? a a)
agree_self a = agree_all a a (λ k. go (get_or a k 0))
  where
    go : (x : ℕ) → T (places_agree x x)
    go zero = tt
    go (suc x) = eqb_refl x

-- joined in turn
pub joined_turn : (a b c : Memory) → joined (joined a b) c ≡ joined a (joined b c)
joined_turn [] b c = refl
joined_turn (x ∷ a) [] c = refl
joined_turn (x ∷ a) (y ∷ b) [] = refl
joined_turn (x ∷ a) (y ∷ b) (z ∷ c) = cc (first x, joined_turn a b c)
  where
    first : (x : ℕ) → joined_place (joined_place x y) z ≡ joined_place x (joined_place y z)
    first zero = refl
    first (suc x) = refl

-- tags that are dropped on one side may be dropped on the other
module _ (tags mask : ℕ) where
  without_at : (m : Memory) (k : ℕ) → k < tags → get_or (without tags mask m) k 0 ≡ cond (bit? mask k) 0 (get_or m k 0)
  without_at m k l = tab_at 0 tags (λ k. cond (bit? mask k) 0 (get_or m k 0)) k l

  without_past : (m : Memory) (k : ℕ) → tags ≤ k → get_or (without tags mask m) k 0 ≡ 0
  without_past m k l = tab_past 0 tags (λ k. cond (bit? mask k) 0 (get_or m k 0)) k l

  module _ (m own : Memory) where
    pub dropped_there : T (agree? (without tags mask m) own) → T (agree? m (without tags mask own))
    dropped_there t = agree_all m (without tags mask own) (λ k. go k (dec_lt k tags))
      where
        one : (b : Bool) (x y : ℕ) → T (places_agree (cond b 0 x) y) → T (places_agree x (cond b 0 y))
        one true x y t = place_zero x
        one false x y t = t

        go : (k : ℕ) → Dec (k < tags) → T (places_agree (get_or m k 0) (get_or (without tags mask own) k 0))
        go k (yes l) =
            subst (λ z. T (places_agree (get_or m k 0) z)) (sym (without_at own k l))
            (one (bit? mask k) (get_or m k 0) (get_or own k 0) (subst (λ z. T (places_agree z (get_or own k 0))) (without_at m k l) (agree_at (without tags mask m) own t k)))
        go k (no n) = subst (λ z. T (places_agree (get_or m k 0) z)) (sym (without_past own k (omega (arith, n)))) (place_zero (get_or m k 0))

    pub dropped_here : T (agree? m (without tags mask own)) → T (agree? (without tags mask m) own)
    dropped_here t = agree_all (without tags mask m) own (λ k. go k (dec_lt k tags))
      where
        one : (b : Bool) (x y : ℕ) → T (places_agree x (cond b 0 y)) → T (places_agree (cond b 0 x) y)
        one true x y t = tt
        one false x y t = t

        go : (k : ℕ) → Dec (k < tags) → T (places_agree (get_or (without tags mask m) k 0) (get_or own k 0))
        go k (yes l) =
            subst (λ z. T (places_agree z (get_or own k 0))) (sym (without_at m k l))
            (one (bit? mask k) (get_or m k 0) (get_or own k 0) (subst (λ z. T (places_agree (get_or m k 0) z)) (without_at own k l) (agree_at m (without tags mask own) t k)))
        go k (no n) = subst (λ z. T (places_agree z (get_or own k 0))) (sym (without_past m k (omega (arith, n)))) tt

    -- what is not dropped of a memory, joined first, makes no difference to a memory that agrees with it
    pub joined_early : (g : ℕ → ℕ) → own ≡ tab tags g → T (agree? m (without tags mask own)) → joined (without tags mask (joined (without tags mask own) m)) own ≡ joined (without tags mask m) own
    joined_early g e t =
        ap (joined (without tags mask (joined (without tags mask own) m))) e
        ∙ joined_tab tags (λ k. cond (bit? mask k) 0 (get_or (joined (without tags mask own) m) k 0)) g
        ∙ tab_same tags (λ k. joined_place (cond (bit? mask k) 0 (get_or (joined (without tags mask own) m) k 0)) (g k)) (λ k. joined_place (cond (bit? mask k) 0 (get_or m k 0)) (g k)) place
        ∙ sym (joined_tab tags (λ k. cond (bit? mask k) 0 (get_or m k 0)) g)
        ∙ sym (ap (joined (without tags mask m)) e)
      where
        one : (b : Bool) (x y : ℕ) → T (places_agree x (cond b 0 y)) → joined_place (cond b 0 (joined_place (cond b 0 y) x)) y ≡ joined_place (cond b 0 x) y
        one true x y t = refl
        one false x zero t = refl
        one false zero (suc y) t = refl
        one false (suc x) (suc y) t = ap suc (sym (eqb→eq x y t))

        place : (k : ℕ) → k < tags → joined_place (cond (bit? mask k) 0 (get_or (joined (without tags mask own) m) k 0)) (g k) ≡ joined_place (cond (bit? mask k) 0 (get_or m k 0)) (g k)
        place k l =
            let eo : get_or own k 0 ≡ g k = ap (λ (z : Memory). get_or z k 0) e ∙ tab_at 0 tags g k l in
            let w = without_at own k l ∙ ap (cond (bit? mask k) 0) eo in
            ap (λ z. joined_place (cond (bit? mask k) 0 z) (g k)) (joined_at (without tags mask own) m k ∙ ap (λ z. joined_place z (get_or m k 0)) w)
            ∙ one (bit? mask k) (get_or m k 0) (g k) (subst (λ z. T (places_agree (get_or m k 0) z)) w (agree_at m (without tags mask own) t k))
