-- The test for shared tags says what it should. Assumes nothing.
use mathlib.Core.Path.{◌≡◌, subst}
use mathlib.Core.Logic.{◌↔◌}
use mathlib.Core.Bool.{true, ◌&&◌, not}
use Prim.Native.Nat.{ℕ, ◌/◌, ◌%◌, ◌^◌, ◌<◌}
use native.Mathlib.Omega.{arith}
use native.Mathlib.Nat.{zero-div}
use native.Mathlib.Decide.{dec_lt}
use lib.Dec.{T, T_not, not_T, eqb}
use lib.ListN.{length, get_or-eq_default}
use Rattle.model.specs.Automaton.{State, Automaton, no_state, carries?}
use Rattle.model.specs.Lists.{all_below}
use Rattle.model.specs.Witness.{Apart, apart?}
use Rattle.model.proofs.Members.{T_and, and_T, T_true}
use Rattle.model.proofs.Below.{all_at, all_of}

pub carried : (A : Automaton) (q k : ℕ) → T (carries? A q k) → q < length A.states
carried A q k c = go (dec_lt q (length A.states))
  where
    go : Dec (q < length A.states) → q < length A.states
    go (yes l) = l
    go (no l) =
        absurd
        (subst (λ x. T (eqb (x % 2) 1)) (zero-div (2 ^ k))
        (subst (λ (s : State). T (eqb (s.mask / 2 ^ k % 2) 1)) (get_or-eq_default A.states no_state (omega arith)) c))

pub apart_of : (A : Automaton) → T (apart? A) → Apart A
apart_of A h k lk q q' c c' = go (dec_lt q q') (dec_lt q' q)
  where
    never : (p r : ℕ) → p < r → T (carries? A p k) → T (carries? A r k) → ⊥
    never p r l cp cr =
        T_not (carries? A p k && carries? A r k)
        (all_at A.tags (λ k. not (carries? A p k && carries? A r k)) (all_at r (λ p. all_below A.tags (λ k. not (carries? A p k && carries? A r k))) (all_at (length A.states) (λ q. all_below q (λ p. all_below A.tags (λ k. not (carries? A p k && carries? A q k)))) h r (carried A r k cr)) p l) k lk)
        (and_T (carries? A p k) (carries? A r k) cp cr)

    go : Dec (q < q') → Dec (q' < q) → q ≡ q'
    go (yes l) d = absurd (never q q' l c c')
    go (no l) (yes m) = absurd (never q' q m c' c)
    go (no l) (no m) = omega arith

of_apart : (A : Automaton) → Apart A → T (apart? A)
of_apart A h =
    all_of (length A.states) _
    (λ q l. all_of q _
    (λ p m. all_of A.tags _
    (λ k n. not_T (carries? A p k && carries? A q k)
    (λ c.
    let (cp, cq) = T_and (carries? A p k) (carries? A q k) c in
    let e = h k n p q cp cq in
    omega arith))))

-- THE THEOREM: the test passes exactly where no tag is carried by two states
pub apart_exactly : (A : Automaton) → (apart? A ≡ true) ↔ Apart A
apart_exactly A = (λ e. apart_of A ((T_true (apart? A)).1 e), λ h. (T_true (apart? A)).0 (of_apart A h))
