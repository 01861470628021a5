-- The witness by rounds: the tree of the lowest final state in the first round that marks one. Assumes nothing.
use mathlib.Core.Path.{◌≡◌, refl, sym, ap, ◌∙◌, subst}
use mathlib.Core.Logic.{◌⊎◌, inl, inr, ⊎_elim, ◌↔◌}
use mathlib.Core.Option.{Option, none, some, some-injective, none-ne-some}
use mathlib.Core.List.{[], ◌∷◌}
use mathlib.Core.Bool.{Bool, true, false}
use Prim.Native.Nat.{ℕ, zero, suc, ◌+◌, ◌<◌, ◌≤◌}
use native.Mathlib.Omega.{arith}
use native.Mathlib.Nat.{zero-add, add-zero, eq-or-lt_of_le}
use native.Mathlib.Decide.{dec_lt, dec_le}
use lib.Dec.{T}
use lib.ListN.{length, get_or}
use Rattle.model.specs.Tree.{Tree}
use Rattle.model.specs.Automaton.{Automaton, final?}
use Rattle.model.specs.Lists.{or_else}
use Rattle.model.specs.Witness.{when?, Marks, rounds, first_final, witness_in, witness}
use Rattle.model.proofs.Witness.{or_none, when_some}
use Rattle.model.proofs.Rounds.{rest, enough}

either : (m n : ℕ) → (m ≤ n) ⊎ (n ≤ m)
either m n = go (dec_le m n)
  where
    go : Dec (m ≤ n) → (m ≤ n) ⊎ (n ≤ m)
    go (yes l) = inl l
    go (no l) = inr (omega arith)

when_none : {B : Type 0} (b : Bool) (o : Option B) → when? b o ≡ none → T b → o ≡ none
when_none true o e f = e
when_none false o e f = absurd f

module _ (A : Automaton) where
  -- the lowest final state that is marked, and its tree
  pub record LowestFinal (M : Marks) (t : Tree) : Type 0 where
    pub state : ℕ
    pub final : T (final? A state)
    pub marked : get_or M state none ≡ some t
    pub lowest : (p : ℕ) → p < state → T (final? A p) → get_or M p none ≡ none

  abbrev LowestFrom : Marks → ℕ → Tree → Type 0
  LowestFrom M n t = (q : ℕ) × T (final? A (n + q)) × (get_or M q none ≡ some t) × ((p : ℕ) → p < q → T (final? A (n + p)) → get_or M p none ≡ none)

  next : (n q : ℕ) → T (final? A (n + suc q)) → T (final? A (suc n + q))
  next n q = let e : n + suc q ≡ suc n + q = omega arith in subst (λ z. T (final? A z)) e

  back : (n q : ℕ) → T (final? A (suc n + q)) → T (final? A (n + suc q))
  back n q = let e : suc n + q ≡ n + suc q = omega arith in subst (λ z. T (final? A z)) e

  here_final : (n : ℕ) → T (final? A (n + 0)) → T (final? A n)
  here_final n = subst (λ z. T (final? A z)) (add-zero n)

  lowest_from : (M : Marks) (n : ℕ) (t : Tree) → first_final A M n ≡ some t → LowestFrom M n t
  lowest_from [] n t e = absurd (none-ne-some t e)
  lowest_from (o ∷ M) n t e = go (when? (final? A n) o) refl e (lowest_from M (suc n) t)
    where
      go : (w : Option Tree) → when? (final? A n) o ≡ w → or_else w (first_final A M (suc n)) ≡ some t → (first_final A M (suc n) ≡ some t → LowestFrom M (suc n) t) → LowestFrom (o ∷ M) n t
      go (some u) i e ih =
          let (f, m) = when_some (final? A n) o i in
          (0, subst (λ z. T (final? A z)) (sym (add-zero n)) f, m ∙ e, λ p l. let z : ⊥ = omega arith in absurd z)
      go none i e ih =
          let (q, f, m, low) = ih e in
          (suc q, back n q f, m, elim [ zero ↦ λ l g. when_none (final? A n) o i (here_final n g) | suc r ↦ λ l g. low r (omega arith) (next n r g) ])

  none_from : (M : Marks) (n : ℕ) → first_final A M n ≡ none → (q : ℕ) → T (final? A (n + q)) → get_or M q none ≡ none
  none_from [] n e q f = refl
  none_from (o ∷ M) n e zero f = when_none (final? A n) o (or_none (when? (final? A n) o) (first_final A M (suc n)) e).0 (here_final n f)
  none_from (o ∷ M) n e (suc q) f = none_from M (suc n) (or_none (when? (final? A n) o) (first_final A M (suc n)) e).1 q (next n q f)

  from_zero : (q : ℕ) → T (final? A q) → T (final? A (0 + q))
  from_zero q = subst (λ z. T (final? A z)) (sym (zero-add q))

  -- `first_final` finds it, or there is none
  pub lowest_final : (M : Marks) (t : Tree) → first_final A M 0 ≡ some t → LowestFinal M t
  lowest_final M t e =
      let (q, f, m, low) = lowest_from M 0 t e in
      record { state = q; final = subst (λ z. T (final? A z)) (zero-add q) f; marked = m; lowest = λ p l g. low p l (from_zero p g) }

  pub none_final : (M : Marks) → first_final A M 0 ≡ none → (q : ℕ) → T (final? A q) → get_or M q none ≡ none
  none_final M e q f = none_from M 0 e q (from_zero q f)

  pub final_lowest : (M : Marks) (t : Tree) → LowestFinal M t → first_final A M 0 ≡ some t
  final_lowest M t w = go (first_final A M 0) refl
    where
      same : (q : ℕ) (u : Tree) → T (final? A q) → get_or M q none ≡ some u → ((p : ℕ) → p < q → T (final? A p) → get_or M p none ≡ none) → Dec (q < w.state) → Dec (w.state < q) → u ≡ t
      same q u f m low (yes l) d = absurd (none-ne-some u (sym (w.lowest q l f) ∙ m))
      same q u f m low (no l) (yes k) = absurd (none-ne-some t (sym (low w.state k w.final) ∙ w.marked))
      same q u f m low (no l) (no k) = let e : q ≡ w.state = omega arith in some-injective u t (sym m ∙ ap (λ z. get_or M z none) e ∙ w.marked)

      go : (o : Option Tree) → first_final A M 0 ≡ o → o ≡ some t
      go none e = absurd (none-ne-some t (sym (none_final M e w.state w.final) ∙ w.marked))
      go (some u) e = let v = lowest_final M u e in ap some (same v.state u v.final v.marked v.lowest (dec_lt v.state w.state) (dec_lt w.state v.state))

  pub final_none : (M : Marks) → ((q : ℕ) → T (final? A q) → get_or M q none ≡ none) → first_final A M 0 ≡ none
  final_none M h = go (first_final A M 0) refl
    where
      go : (o : Option Tree) → first_final A M 0 ≡ o → o ≡ none
      go none e = refl
      go (some t) e = let v = lowest_final M t e in absurd (none-ne-some t (sym (h v.state v.final) ∙ v.marked))

  -- the round after which a final state is marked first, and the tree of the lowest
  pub record FirstRound (t : Tree) (k : ℕ) : Type 0 where
    pub within : k ≤ length A.states
    pub found : first_final A (rounds A k) 0 ≡ some t
    pub before : (j : ℕ) → j < k → first_final A (rounds A j) 0 ≡ none

  abbrev FirstFrom : ℕ → ℕ → Tree → Type 0
  FirstFrom n i t = (k : ℕ) × (i ≤ k) × (k ≤ i + n) × (first_final A (rounds A k) 0 ≡ some t) × ((j : ℕ) → i ≤ j → j < k → first_final A (rounds A j) 0 ≡ none)

  first_from : (n i : ℕ) (t : Tree) → witness_in A n (rounds A i) ≡ some t → FirstFrom n i t
  first_from zero i t e = (i, omega arith, omega arith, e, λ j a b. let z : ⊥ = omega arith in absurd z)
  first_from (suc n) i t e = go (first_final A (rounds A i) 0) refl e (first_from n (suc i) t)
    where
      go : (o : Option Tree) → first_final A (rounds A i) 0 ≡ o → or_else o (witness_in A n (rounds A (suc i))) ≡ some t → (witness_in A n (rounds A (suc i)) ≡ some t → FirstFrom n (suc i) t) → FirstFrom (suc n) i t
      go (some u) f e ih = (i, omega arith, omega arith, f ∙ e, λ j a b. let z : ⊥ = omega arith in absurd z)
      go none f e ih =
          let (k, a, b, g, h) = ih e in
          (k, omega arith, omega arith, g, λ j c d. ⊎_elim (λ q. subst (λ z. first_final A (rounds A z) 0 ≡ none) q f) (λ l. h j l d) (eq-or-lt_of_le c))

  from_first : (n i k : ℕ) (t : Tree) → i ≤ k → k ≤ i + n → first_final A (rounds A k) 0 ≡ some t → ((j : ℕ) → i ≤ j → j < k → first_final A (rounds A j) 0 ≡ none) → witness_in A n (rounds A i) ≡ some t
  from_first zero i k t a b f h = let e : i ≡ k = omega arith in subst (λ z. first_final A (rounds A z) 0 ≡ some t) (sym e) f
  from_first (suc n) i k t a b f h =
      ⊎_elim
      (λ e. ap (λ o. or_else o (witness_in A n (rounds A (suc i)))) (ap (λ z. first_final A (rounds A z) 0) e ∙ f))
      (λ l. ap (λ o. or_else o (witness_in A n (rounds A (suc i)))) (h i (omega arith) l) ∙ from_first n (suc i) k t l (omega arith) f (λ j c d. h j (omega arith) d))
      (eq-or-lt_of_le a)

  none_in : (n i : ℕ) → witness_in A n (rounds A i) ≡ none → (j : ℕ) → i ≤ j → j ≤ i + n → first_final A (rounds A j) 0 ≡ none
  none_in zero i e j a b = let q : i ≡ j = omega arith in subst (λ z. first_final A (rounds A z) 0 ≡ none) q e
  none_in (suc n) i e j a b =
      let (f, g) = or_none (first_final A (rounds A i) 0) (witness_in A n (rounds A (suc i))) e in
      ⊎_elim (λ q. subst (λ z. first_final A (rounds A z) 0 ≡ none) q f) (λ l. none_in n (suc i) g j l (omega arith)) (eq-or-lt_of_le a)

  -- THE WITNESS BY ROUNDS: the tree of the lowest final state in the first round that marks one
  pub first_round : (t : Tree) → witness A ≡ some t → (k : ℕ) × FirstRound t k
  first_round t e =
      let (k, a, b, f, h) = first_from (length A.states) 0 t e in
      (k, record { within = omega arith; found = f; before = λ j. h j (omega arith) })

  pub by_first_round : (t : Tree) (k : ℕ) → FirstRound t k → witness A ≡ some t
  by_first_round t k w = from_first (length A.states) 0 k t (omega arith) (omega (arith, w.within)) w.found (λ j a. w.before j)

  -- there is none exactly where no round marks a final state
  pub no_witness : (witness A ≡ none) ↔ ((n : ℕ) → first_final A (rounds A n) 0 ≡ none)
  no_witness = (there, back_to)
    where
      there : witness A ≡ none → (n : ℕ) → first_final A (rounds A n) 0 ≡ none
      there e n = ⊎_elim (λ l. up_to n l) (λ l. ap (λ M. first_final A M 0) (enough A n l) ∙ up_to (length A.states) (omega arith)) (either n (length A.states))
        where
          up_to : (j : ℕ) → j ≤ length A.states → first_final A (rounds A j) 0 ≡ none
          up_to j l = none_in (length A.states) 0 e j (omega arith) (omega arith)

      back_to : ((n : ℕ) → first_final A (rounds A n) 0 ≡ none) → witness A ≡ none
      back_to h = go (witness A) refl
        where
          go : (o : Option Tree) → witness A ≡ o → o ≡ none
          go none e = refl
          go (some t) e = let (k, w) = first_round t e in absurd (none-ne-some t (sym (h k) ∙ w.found))

  -- dead, known after the first round that adds nothing
  pub dead_at : (n : ℕ) → rounds A (suc n) ≡ rounds A n → ((j : ℕ) → j ≤ n → first_final A (rounds A j) 0 ≡ none) → witness A ≡ none
  dead_at n e h = no_witness.1 (λ m. ⊎_elim (h m) (λ l. ap (λ M. first_final A M 0) (rest A n m l e) ∙ h n (omega arith)) (either m n))
