-- The turns of marking: what each round leaves for the next, and what the marks show when a final state is marked or a round adds none. Assumes nothing.
use mathlib.Core.Path.{◌≡◌, refl, sym, ap, ◌∙◌, subst}
use mathlib.Core.List.{List}
use mathlib.Core.Logic.{⊎_elim}
use mathlib.Core.Bool.{Bool, true, false, ◌&&◌}
use mathlib.Core.Option.{Option, none, some, none-ne-some}
use Prim.Native.Nat.{ℕ, zero, suc, ◌+◌, ◌<◌, ◌≤◌}
use native.Mathlib.Numerals.{add-one}
use native.Mathlib.Nat.{eq-or-lt_of_le, le_of_suc-le-suc}
use native.Mathlib.Decide.{ℕ_discrete}
use native.Mathlib.Omega.{arith}
use borrow.Author.Tests.{eqb-true, eqb-false, not-true, not-false}
use lib.Dec.{T, eqb, eqb_refl}
use lib.ListN.{length, get_or, replicate}
use Rattle.std.specs.Prelude.{None, Some}
use Rattle.std.specs.Prelude.{Option as Perhaps}
use Rattle.model.specs.Limits.{max_children, max_states}
use Rattle.model.specs.Lists.{all_below}
use Rattle.model.specs.Tree.{Tree}
use Rattle.model.specs.Automaton.{Rule, Automaton, final?}
use Rattle.model.specs.Sound.{Sound}
use Rattle.model.specs.Order.{place}
use Rattle.model.specs.Written.{rule_at, no_rule}
use Rattle.model.specs.Witness.{rounds, first_final}
use Rattle.model.proofs.Members.{T_true, or_left, or_right}
use Rattle.model.proofs.Below.{at}
use Rattle.model.proofs.Rows.{in_get_d}
use Rattle.model.proofs.Tab.{tab_at}
use Rattle.model.proofs.Witness.{none_marked}
use Rattle.model.proofs.Rounds.{nothing_new, enough, in_states}
use Rattle.model.proofs.FirstRound.{FirstRound, final_lowest, final_none, none_final, by_first_round, dead_at}
use Rattle.model.proofs.Lowest.{levels_first}
use Rattle.automaton.specs.declared.State.{State}
use Rattle.automaton.specs.Stored.{decode}
use Rattle.automaton.specs.Check.{check_of}
use Rattle.automaton.proofs.Sound.{sound_decode}
use Rattle.emptiness.specs.Places.{named?}
use Rattle.emptiness.specs.Marking.{marked?, child_marked?, ready?, Ready, Tried, this?, early?, propagated?, Propagated, LowestAdded, Made, Marked, Marks}
use Rattle.emptiness.proofs.Tries.{tried_fewer}
use Rattle.emptiness.proofs.Links.{place_number, at_named, zeros, zeros_long}
use Rattle.emptiness.proofs.Rounds.{next_marked}

-- a test that does not pass everywhere fails at an index
some_fails : (n : ℕ) (p : ℕ → Bool) → all_below n p ≡ false → (i : ℕ) × (i < n) × (p i ≡ false)
unfolding all_below
some_fails zero p e = let z : ⊥ = subst T e tt in absurd z
some_fails (suc n) p e = go (all_below n p) (p n) refl refl e (some_fails n p)
  where
    go : (a b : Bool) → all_below n p ≡ a → p n ≡ b → (a && b) ≡ false → (all_below n p ≡ false → (i : ℕ) × (i < n) × (p i ≡ false)) → (i : ℕ) × (i < suc n) × (p i ≡ false)
    go true true ea eb f ih = let z : ⊥ = subst T f tt in absurd z
    go true false ea eb f ih = (n, omega arith, eb)
    go false b ea eb f ih = let (i, l, h) = ih ea in (i, omega arith, h)

-- a rule below n is one of the first n; one that names a state of a list is one of those that it propagates to
early_all : (n j : ℕ) → j < n → T (early? n j)
unfolding early? this?
early_all zero j l = let z : ⊥ = omega arith in absurd z
early_all (suc n) j l =
    ⊎_elim
    (λ e. or_right (early? n j) (eqb j n) (subst (λ z. T (eqb j z)) e (eqb_refl j)))
    (λ g. or_left (early? n j) (eqb j n) (early_all n j g))
    (eq-or-lt_of_le (le_of_suc-le-suc l))

propagated_at : (A : Automaton) (states : List ℕ) (n x j : ℕ) → x < n → T (named? A (get_or states x 0) 0 j) → T (propagated? A states n j)
unfolding propagated?
propagated_at A states zero x j l t = let z : ⊥ = omega arith in absurd z
propagated_at A states (suc n) x j l t =
    ⊎_elim
    (λ e. or_right (propagated? A states n j) (named? A (get_or states n 0) 0 j) (subst (λ z. T (named? A (get_or states z 0) 0 j)) e t))
    (λ g. or_left (propagated? A states n j) (named? A (get_or states n 0) 0 j) (propagated_at A states n x j g t))
    (eq-or-lt_of_le (le_of_suc-le-suc l))

-- a mark that is 0 says that there is no tree, and there is none only there
unmarked : (A : Automaton) (n : ℕ) (o : Option Tree) (x : ℕ) → Made A n o x → x ≡ 0 → o ≡ none
unmarked A n o zero m e = m
unmarked A n o (suc i) m e = let z : ⊥ = omega arith in absurd z

mark_zero : (A : Automaton) (n : ℕ) (o : Option Tree) (x : ℕ) → Made A n o x → o ≡ none → x ≡ 0
mark_zero A n o zero m e = refl
mark_zero A n o (suc i) m e = absurd (none-ne-some _ (sym e ∙ m.is))

was_zero : (marks : List ℕ) (r : Rule) (k : ℕ) → child_marked? marks r k ≡ false → get_or marks (place r k) 0 ≡ 0
unfolding child_marked? marked?
was_zero marks r k e = eqb-true (get_or marks (place r k) 0) 0 (not-false (eqb (get_or marks (place r k) 0) 0) e)

is_some : (marks : List ℕ) (r : Rule) (k : ℕ) → child_marked? marks r k ≡ true → get_or marks (place r k) 0 ≡ 0 → ⊥
unfolding child_marked? marked?
is_some marks r k e = eqb-false (get_or marks (place r k) 0) 0 (not-true (eqb (get_or marks (place r k) 0) 0) e)

-- After n rounds none of which marked a final state, and one more: its marks, the states that it added, and that each rule which is ready then names one of these.
pub record Turn (A : Automaton) (n : ℕ) (marks added : List ℕ) (count : ℕ) : Type 0 where
  pub marked : Marked A (suc n) marks
  pub room : length added ≡ max_states
  pub waiting : (j : ℕ) → j ≤ n → first_final A (rounds A j) 0 ≡ none
  pub inside : (x : ℕ) → x < count → (get_or added x 0 < length A.states) × (get_or marks (get_or added x 0) 0 ≡ 0 → ⊥)
  pub fresh : (q : ℕ) → q < length A.states → (get_or marks q 0 ≡ 0 → ⊥) → get_or (rounds A n) q none ≡ none → (x : ℕ) × (x < count) × (get_or added x 0 ≡ q)
  pub propagated : (q j : ℕ) → Ready A marks q j → get_or marks q 0 ≡ 0 → T (propagated? A added count j)

module _ (A : Automaton) (sound : Sound A) where
  module _ (n : ℕ) (marks next added : List ℕ) (count : ℕ) (m : Marked A n marks) (t : Tried A marks (λ j. true) next added count) where
    -- a state that the round marked, by a rule
    state_in : (x : ℕ) → x < count → get_or added x 0 < length A.states
    state_in x l = go (get_or next (get_or added x 0) 0) refl
      where
        go : (k : ℕ) → get_or next (get_or added x 0) 0 ≡ k → get_or added x 0 < length A.states
        go zero e = absurd ((t.new x l).1 e)
        go (suc k) e =
            let R = t.by (get_or added x 0) k (t.new x l).0 e in
            subst (λ z. z < length A.states) R.target (sound.wellformed.targets (rule_at A k) (in_get_d no_rule A.rules k R.known))

    -- a rule that the round made ready has a child that the round marked
    propagates : (q j : ℕ) → Ready A next q j → get_or next q 0 ≡ 0 → T (propagated? A added count j)
    propagates q j R e = go (ready? marks (rule_at A j)) refl
      where
        unmarked_before : Dec (get_or marks q 0 ≡ 0) → get_or marks q 0 ≡ 0
        unmarked_before (yes z) = z
        unmarked_before (no z) = absurd (z (sym (t.keeps q z) ∙ e))

        few : length (rule_at A j).children ≤ max_children
        few =
            let a = sound.wellformed.as_many (rule_at A j) (in_get_d no_rule A.rules j R.known) in
            omega (arith, sound.few_children (rule_at A j).symbol)

        go : (b : Bool) → ready? marks (rule_at A j) ≡ b → T (propagated? A added count j)
        go true r = absurd ((t.first q j (record { known = R.known; target = R.target; ready = r }) tt (unmarked_before (ℕ_discrete (get_or marks q 0) 0))).0 e)
        go false r =
            let (k, l, f) = some_fails (length (rule_at A j).children) (child_marked? marks (rule_at A j)) r in
            let c = place (rule_at A j) k in
            let (x, lx, ex) = t.listed c (was_zero marks (rule_at A j) k f) (is_some next (rule_at A j) k (at (child_marked? next (rule_at A j)) (length (rule_at A j).children) k R.ready l)) in
            propagated_at A added count x j lx (subst (λ z. T (named? A z 0 j)) (sym ex) (at_named A marks c 0 j k (omega (arith, few)) (omega arith) (place_number A j k (omega (arith, few)))))

    pub turned : ((j : ℕ) → j ≤ n → first_final A (rounds A j) 0 ≡ none) → Turn A n next added count
    turned w =
        record {
          marked = next_marked A sound n marks m next added count t;
          room = t.room;
          waiting = w;
          inside = λ x l. (state_in x l, (t.new x l).1);
          fresh = λ q l k o. t.listed q (mark_zero A n (get_or (rounds A n) q none) (get_or marks q 0) (m.each q l) o) k;
          propagated = propagates;
        }

  -- before the first round
  none_yet : (marks : List ℕ) → length marks ≡ max_states → ((q : ℕ) → get_or marks q 0 ≡ 0) → Marked A 0 marks
  none_yet marks l h = record { long = l; each = λ q lq. subst (Made A 0 (get_or (rounds A 0) q none)) (sym (h q)) (tab_at none (length A.states) (λ z. none) q lq) }

  waiting_first : (j : ℕ) → j ≤ 0 → first_final A (rounds A j) 0 ≡ none
  waiting_first j l = let e : 0 ≡ j = omega arith in subst (λ z. first_final A (rounds A z) 0 ≡ none) e (final_none A (rounds A 0) (λ q f. nothing q (get_or (rounds A 0) q none) refl))
    where
      nothing : (q : ℕ) (o : Option Tree) → get_or (rounds A 0) q none ≡ o → o ≡ none
      nothing q none e = refl
      nothing q (some t) e = absurd (none_marked A q t e)

  turn_first : (marks next added : List ℕ) (count : ℕ) → length marks ≡ max_states → ((q : ℕ) → get_or marks q 0 ≡ 0) → Tried A marks (early? (length A.rules)) next added count → Turn A 0 next added count
  turn_first marks next added count l h t =
      turned 0 marks next added count (none_yet marks l h) (tried_fewer A marks (early? (length A.rules)) (λ j. true) next added count (λ q j R e d. early_all (length A.rules) j R.known) t) waiting_first

  module _ (n : ℕ) (marks added : List ℕ) (count : ℕ) (t : Turn A n marks added count) (best : Perhaps State) (w : LowestAdded A added count best) where
    -- a final state that is marked was added in the last round
    final_added : (p : ℕ) → T (final? A p) → (o : Option Tree) → get_or (rounds A (suc n)) p none ≡ o → (o ≡ none → ⊥) → (x : ℕ) × (x < count) × (get_or added x 0 ≡ p)
    final_added p f none e h = absurd (h refl)
    final_added p f (some u) e h =
        let l = in_states A (suc n) p u e in
        t.fresh p l
        (λ z. none-ne-some u (sym (unmarked A (suc n) (get_or (rounds A (suc n)) p none) (get_or marks p 0) (t.marked.each p l) z) ∙ e))
        (none_final A (rounds A n) (t.waiting n (omega arith)) p f)

    no_final : best ≡ None → first_final A (rounds A (suc n)) 0 ≡ none
    no_final u = final_none A (rounds A (suc n)) (λ p f. go p f (get_or (rounds A (suc n)) p none) refl)
      where
        go : (p : ℕ) → T (final? A p) → (o : Option Tree) → get_or (rounds A (suc n)) p none ≡ o → o ≡ none
        go p f none e = refl
        go p f (some v) e =
            let (x, l, ex) = final_added p f (some v) e (λ z. none-ne-some v (sym z)) in
            let z : ⊥ = subst T (ap (final? A) (sym ex) ∙ w.nowhere u x l) f in
            absurd z

    waited : best ≡ None → (j : ℕ) → j ≤ suc n → first_final A (rounds A j) 0 ≡ none
    waited u j l = ⊎_elim (λ i. subst (λ z. first_final A (rounds A z) 0 ≡ none) (sym i) (no_final u)) (λ g. t.waiting j (le_of_suc-le-suc g)) (eq-or-lt_of_le l)

    pub turn_more : (next added' : List ℕ) (count' : ℕ) → best ≡ None → Propagated A marks added count next added' count' → Turn A (n + 1) next added' count'
    turn_more next added' count' u W = rw add-one (turned (suc n) marks next added' count' t.marked (tried_fewer A marks (propagated? A added count) (λ j. true) next added' count' (λ p j R e d. t.propagated p j R e) (W.gives t.marked.long (λ x l. omega (arith, (t.inside x l).0, sound.few_states)))) (waited u))

    -- the round marks a final state first
    pub marks_live : (found : State) → best ≡ Some found → (m : ℕ) → n < m → m ≡ length A.states → Marks A (Some (record { state = found; round = n + 1; marks = marks }))
    marks_live found h m l em = go (get_or (rounds A (suc n)) found.0 none) refl
      where
        lq : found.0 < length A.states
        lq = let (x, lx, ex) = (w.here found h).1 in subst (λ z. z < length A.states) ex (t.inside x lx).0

        some_mark : get_or marks found.0 0 ≡ 0 → ⊥
        some_mark z = let (x, lx, ex) = (w.here found h).1 in (t.inside x lx).1 (ap (λ y. get_or marks y 0) ex ∙ z)

        lowest : (p : ℕ) → p < found.0 → T (final? A p) → (o : Option Tree) → get_or (rounds A (suc n)) p none ≡ o → o ≡ none
        lowest p lp f none e = refl
        lowest p lp f (some v) e =
            let (x, lx, ex) = final_added p f (some v) e (λ z. none-ne-some v (sym z)) in
            let g = w.lowest found h x lx (ap (final? A) ex ∙ (T_true (final? A p)).0 f) in
            let z : ⊥ = omega arith in
            absurd z

        go : (o : Option Tree) → get_or (rounds A (suc n)) found.0 none ≡ o → Marks A (Some (record { state = found; round = n + 1; marks = marks }))
        go none e = absurd (some_mark (mark_zero A (suc n) (get_or (rounds A (suc n)) found.0 none) (get_or marks found.0 0) (t.marked.each found.0 lq) e))
        go (some v) e =
            let f = final_lowest A (rounds A (suc n)) v (record { state = found.0; final = (T_true (final? A found.0)).1 (w.here found h).0; marked = e; lowest = λ p lp fp. lowest p lp fp (get_or (rounds A (suc n)) p none) refl }) in
            let r : FirstRound A v (suc n) = record { within = omega arith; found = f; before = λ j lj. t.waiting j (omega arith) } in
            rw add-one (record {
              tree = v;
              witness_is = by_first_round A v (suc n) r;
              state = lq;
              tree_of = e;
              height = levels_first A sound.wellformed v (suc n) r;
              marks_are = t.marked;
            })

    -- the round adds nothing
    pub marks_same : best ≡ None → count ≡ 0 → Marks A None
    marks_same u z = dead_at A n (nothing_new A n (λ p l o. unmarked A (suc n) (get_or (rounds A (suc n)) p none) (get_or marks p 0) (t.marked.each p l) (go p l o (ℕ_discrete (get_or marks p 0) 0)))) t.waiting
      where
        go : (p : ℕ) → p < length A.states → get_or (rounds A n) p none ≡ none → Dec (get_or marks p 0 ≡ 0) → get_or marks p 0 ≡ 0
        go p l o (yes y) = y
        go p l o (no y) = let (x, lx, ex) = t.fresh p l y o in let b : ⊥ = omega arith in absurd b

  -- as many rounds as there are states were enough
  pub marks_end : (n m : ℕ) (marks added : List ℕ) (count : ℕ) → Turn A n marks added count → n ≤ m → m ≤ n → m ≡ length A.states → Marks A None
  marks_end n m marks added count t l g e =
      let i : n ≡ length A.states = omega arith in
      dead_at A n (enough A (suc n) (omega arith) ∙ ap (rounds A) (sym i)) t.waiting

pub turn_start : (s next added : List ℕ) (count : ℕ) → check_of s ≡ 0 → Tried (decode s) (replicate max_states 0) (early? (length (decode s).rules)) next added count → Turn (decode s) 0 next added count
turn_start s next added count h t = turn_first (decode s) (sound_decode s h) (replicate max_states 0) next added count (zeros_long max_states) (zeros max_states) t
