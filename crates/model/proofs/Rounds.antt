-- The rounds of marking: what is marked stays, a round that adds nothing is the last, and by which rule a state's tree is made. Assumes nothing.
use mathlib.Core.Path.{◌≡◌, refl, sym, ap, ◌∙◌, subst}
use mathlib.Core.Logic.{◌⊎◌, inl, inr, ⊎_elim}
use mathlib.Core.Option.{Option, none, some, some-injective, none-ne-some}
use mathlib.Core.List.Memᴰ.{cases_cons as in_cons}
use mathlib.Core.List.Memᴰ.{not-nil}
use mathlib.Core.List.{List, [], ◌∷◌, ◌++◌, Memᴰ as In}
use Prim.Native.Nat.{ℕ, zero, suc, ◌<◌, ◌≤◌}
use native.Mathlib.Omega.{arith}
use native.Mathlib.Nat.{eq-or-lt_of_le, le_of_suc-le-suc}
use lib.ListN.{length, get_or}
use lib.Seq.{ext_get_or}
use Rattle.model.specs.Tree.{Tree, and_then}
use Rattle.model.specs.Automaton.{Rule, Automaton}
use Rattle.model.specs.Lists.{or_else}
use Rattle.model.specs.Witness.{Marks, trees_in, by_rule, by_first, next_round, rounds}
use Rattle.model.proofs.Tab.{tab_at, length_tab}
use Rattle.model.proofs.Witness.{then_some, or_cases, tab_some, By, by_first_lem, Onto, InRange, Homely, none_marked, in_range, kept, next_homely}

-- how many states are marked
abbrev count : Marks → ℕ
count [] = 0
count (none ∷ M) = count M
count (some t ∷ M) = suc (count M)

count_le : (M : Marks) → count M ≤ length M
count_le [] = omega arith
count_le (none ∷ M) = let h = count_le M in omega arith
count_le (some t ∷ M) = let h = count_le M in omega arith

-- marks that keep others are the same, or more
same_or_more : (M N : Marks) → length M ≡ length N → ((q : ℕ) (t : Tree) → get_or M q none ≡ some t → get_or N q none ≡ some t) → (count M ≤ count N) × ((N ≡ M) ⊎ (count M < count N))
same_or_more [] [] e h = (omega arith, inl refl)
same_or_more [] (n ∷ N) e h = let z : ⊥ = omega arith in absurd z
same_or_more (m ∷ M) [] e h = let z : ⊥ = omega arith in absurd z
same_or_more (none ∷ M) (none ∷ N) e h =
    let (l, r) = same_or_more M N (omega arith) (λ q. h (suc q)) in
    (l, ⊎_elim (λ i. inl (ap {B = Marks} (λ z. none ∷ z) i)) inr r)
same_or_more (none ∷ M) (some t ∷ N) e h =
    let (l, r) = same_or_more M N (omega arith) (λ q. h (suc q)) in
    (omega arith, inr (omega arith))
same_or_more (some s ∷ M) (none ∷ N) e h = absurd (none-ne-some s (h 0 s refl))
same_or_more (some s ∷ M) (some t ∷ N) e h =
    let (l, r) = same_or_more M N (omega arith) (λ q. h (suc q)) in
    (omega arith, ⊎_elim (λ i. inl (let z = h 0 s refl in cc)) (λ g. inr (omega arith)) r)

-- what holds of each marked tree holds of the trees of marked states
pub each_tree : (P : Tree → Type 0) (M : Marks) → ((q : ℕ) (t : Tree) → get_or M q none ≡ some t → P t) → (qs : List ℕ) (ts : List Tree) → trees_in M qs ≡ some ts → (t : Tree) → In t ts → P t
each_tree P M h [] ts e t m = absurd (not-nil (subst (In t) (sym (some-injective _ _ e)) m))
each_tree P M h (q ∷ qs) ts e t m =
    let (u, eu, e₁) = then_some (get_or M q none) _ e in
    let (us, es, e₂) = then_some (trees_in M qs) _ e₁ in
    ⊎_elim (λ i. subst P (sym i) (h q u eu)) (each_tree P M h qs us es t) (in_cons (subst (In t) (sym (some-injective _ _ e₂)) m))

-- a state that is marked, was marked before or gets its tree by a rule
pub marked_by : (A : Automaton) (M : Marks) (q : ℕ) (t : Tree) → get_or (next_round A M) q none ≡ some t → (get_or M q none ≡ some t) ⊎ By A M q A.rules t
marked_by A M q t e =
    ⊎_elim inl (λ b. inr (by_first_lem A M q A.rules t b))
    (or_cases (get_or M q none) (by_first M q A.rules) (tab_some (length A.states) (λ z. or_else (get_or M z none) (by_first M z A.rules)) q e).1)

-- the first of the rules xs, else of ys
pub by_first_append : (M : Marks) (q : ℕ) (xs ys : List Rule) → by_first M q (xs ++ ys) ≡ or_else (by_first M q xs) (by_first M q ys)
by_first_append M q [] ys = refl
by_first_append M q (r ∷ xs) ys = go (by_rule M q r) (by_first_append M q xs ys)
  where
    go : (o : Option Tree) → by_first M q (xs ++ ys) ≡ or_else (by_first M q xs) (by_first M q ys) → or_else o (by_first M q (xs ++ ys)) ≡ or_else (or_else o (by_first M q xs)) (by_first M q ys)
    go none e = e
    go (some t) e = refl

-- marks that keep others have the same trees for marked states
trees_kept : (M N : Marks) → ((q : ℕ) (t : Tree) → get_or M q none ≡ some t → get_or N q none ≡ some t) → (qs : List ℕ) (ts : List Tree) → trees_in M qs ≡ some ts → trees_in N qs ≡ some ts
trees_kept M N h [] ts e = e
trees_kept M N h (q ∷ qs) ts e =
    let (u, eu, e₁) = then_some (get_or M q none) _ e in
    let (us, es, e₂) = then_some (trees_in M qs) _ e₁ in
    ap (λ o. and_then o (λ t. and_then (trees_in N qs) (λ ts. some (t ∷ ts)))) (h q u eu) ∙ ap (λ o. and_then o (λ ts. some (u ∷ ts))) (trees_kept M N h qs us es) ∙ e₂

module _ (A : Automaton) where
  pub round_at : (M : Marks) (q : ℕ) → q < length A.states → get_or (next_round A M) q none ≡ or_else (get_or M q none) (by_first M q A.rules)
  round_at M q l = tab_at none (length A.states) (λ z. or_else (get_or M z none) (by_first M z A.rules)) q l

  pub length_rounds : (n : ℕ) → length (rounds A n) ≡ length A.states
  length_rounds zero = length_tab (length A.states) (λ z. none)
  length_rounds (suc n) = length_tab (length A.states) (λ z. or_else (get_or (rounds A n) z none) (by_first (rounds A n) z A.rules))

  pub in_states : (n : ℕ) → InRange A (rounds A n)
  in_states zero = λ q t e. absurd (none_marked A q t e)
  in_states (suc n) = in_range A (rounds A n)

  -- each marked tree has a run from its state
  pub has_run : (n : ℕ) → Homely A (rounds A n)
  has_run zero = λ q t e. absurd (none_marked A q t e)
  has_run (suc n) = next_homely A (rounds A n) (in_states n) (has_run n)

  -- a marked state keeps its tree
  pub stays : (m n : ℕ) → m ≤ n → Onto A (rounds A m) (rounds A n)
  stays m zero l q t e = let i : m ≡ 0 = omega arith in subst (λ z. get_or (rounds A z) q none ≡ some t) i e
  stays m (suc n) l q t e =
      ⊎_elim
      (λ i. subst (λ z. get_or (rounds A z) q none ≡ some t) i e)
      (λ i. kept A (rounds A n) (in_states n) q t (stays m n (le_of_suc-le-suc i) q t e))
      (eq-or-lt_of_le l)

  -- and so does a list of marked states
  pub trees_stay : (m n : ℕ) → m ≤ n → (qs : List ℕ) (ts : List Tree) → trees_in (rounds A m) qs ≡ some ts → trees_in (rounds A n) qs ≡ some ts
  trees_stay m n l = trees_kept (rounds A m) (rounds A n) (stays m n l)

  -- a round adds nothing where it marks no state
  pub nothing_new : (n : ℕ) → ((q : ℕ) → q < length A.states → get_or (rounds A n) q none ≡ none → get_or (rounds A (suc n)) q none ≡ none) → rounds A (suc n) ≡ rounds A n
  nothing_new n h = ext_get_or none (rounds A (suc n)) (rounds A n) (length_rounds (suc n) ∙ sym (length_rounds n)) (λ q l. go q (subst (q <◌) (length_rounds (suc n)) l) (get_or (rounds A n) q none) refl)
    where
      go : (q : ℕ) → q < length A.states → (o : Option Tree) → get_or (rounds A n) q none ≡ o → get_or (rounds A (suc n)) q none ≡ get_or (rounds A n) q none
      go q l none e = h q l e ∙ sym e
      go q l (some t) e = stays n (suc n) (omega arith) q t e ∙ sym e

  -- a round that adds nothing is the last
  pub rest : (m n : ℕ) → m ≤ n → rounds A (suc m) ≡ rounds A m → rounds A n ≡ rounds A m
  rest m zero l e = let i : 0 ≡ m = omega arith in ap (rounds A) i
  rest m (suc n) l e = ⊎_elim (λ i. ap (rounds A) (sym i)) (λ i. ap (next_round A) (rest m n (le_of_suc-le-suc i) e) ∙ e) (eq-or-lt_of_le l)

  progress : (n : ℕ) → (n ≤ count (rounds A n)) ⊎ ((m : ℕ) × (m < n) × (rounds A (suc m) ≡ rounds A m))
  progress zero = inl (omega arith)
  progress (suc n) =
      ⊎_elim
      (λ h. ⊎_elim (λ s. inr (n, omega arith, s)) (λ l. inl (omega arith)) (same_or_more (rounds A n) (rounds A (suc n)) (length_rounds n ∙ sym (length_rounds (suc n))) (stays n (suc n) (omega arith))).1)
      (λ r. inr (r.0, omega arith, r.2))
      (progress n)

  -- as many rounds as there are states are enough
  pub enough : (n : ℕ) → length A.states ≤ n → rounds A n ≡ rounds A (length A.states)
  enough n l =
      ⊎_elim
      (λ h. let z : ⊥ = omega (arith, count_le (rounds A (suc (length A.states))), length_rounds (suc (length A.states))) in absurd z)
      (λ r. rest r.0 n (omega arith) r.2 ∙ sym (rest r.0 (length A.states) (omega arith) r.2))
      (progress (suc (length A.states)))
