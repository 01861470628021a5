-- A round over the marks as numbers is a round of document 01: the marks after n rounds become those after one more. Assumes nothing.
use mathlib.Core.Path.{◌≡◌, refl, sym, ap, ◌∙◌, subst}
use mathlib.Core.List.{List, [], ◌∷◌}
use mathlib.Core.Logic.{◌⊎◌, inl, inr, ⊎_elim}
use mathlib.Core.Bool.{Bool, true, false, not}
use mathlib.Core.Option.{Option, none, some, none-ne-some}
use Prim.Native.Nat.{ℕ, zero, suc, ◌<◌}
use native.Mathlib.Omega.{arith}
use native.Mathlib.Decide.{ℕ_discrete}
use borrow.Author.Tests.{eq-eqb}
use lib.Dec.{T, eqb, eqb→eq, eqb-suc-zero}
use lib.ListN.{length, get_or}
use Rattle.model.specs.Limits.{unused}
use Rattle.model.specs.Tree.{Tree, node, forest, and_then}
use Rattle.model.specs.Automaton.{Rule, Automaton}
use Rattle.model.specs.Sound.{Sound}
use Rattle.model.specs.Order.{place}
use Rattle.model.specs.Written.{rule_at, no_rule}
use Rattle.model.specs.Lists.{or_else}
use Rattle.model.specs.Witness.{when?, trees_in, topped, by_rule, by_first, rounds}
use Rattle.model.proofs.Members.{T_true}
use Rattle.model.proofs.Below.{all_at, all_of}
use Rattle.model.proofs.Rows.{in_get_d}
use Rattle.model.proofs.Witness.{then_some}
use Rattle.model.proofs.Rounds.{round_at, trees_stay}
use Rattle.emptiness.specs.Marking.{marked?, child_marked?, ready?, Tried, MadeBy, Made, Marked}

-- the tree by the first rule: there is none where no rule leads to q, else it is that of a rule before which none does
by_none : (M : List (Option Tree)) (q : ℕ) (rs : List Rule) → ((i : ℕ) → i < length rs → by_rule M q (get_or rs i no_rule) ≡ none) → by_first M q rs ≡ none
by_none M q [] h = refl
by_none M q (r ∷ rs) h = ap (λ o. or_else o (by_first M q rs)) (h 0 (omega arith)) ∙ by_none M q rs (λ i l. h (suc i) (omega arith))

by_some : (M : List (Option Tree)) (q : ℕ) (rs : List Rule) (i : ℕ) (t : Tree) → i < length rs → ((j : ℕ) → j < i → by_rule M q (get_or rs j no_rule) ≡ none) → by_rule M q (get_or rs i no_rule) ≡ some t → by_first M q rs ≡ some t
by_some M q [] i t l h e = let z : ⊥ = omega arith in absurd z
by_some M q (r ∷ rs) zero t l h e = ap (λ o. or_else o (by_first M q rs)) e
by_some M q (r ∷ rs) (suc i) t l h e = ap (λ o. or_else o (by_first M q rs)) (h 0 (omega arith)) ∙ by_some M q rs i t (omega arith) (λ j k. h (suc j) (omega arith)) e

-- a mark that is not 0 says that there is a tree; and the other way round
pub made_some : (A : Automaton) (n : ℕ) (o : Option Tree) (x : ℕ) → Made A n o x → T (not (eqb x 0)) → (t : Tree) × (o ≡ some t)
made_some A n o zero m h = absurd h
made_some A n o (suc i) m h = (_, m.is)

some_made : (A : Automaton) (n : ℕ) (o : Option Tree) (x : ℕ) (t : Tree) → Made A n o x → o ≡ some t → T (not (eqb x 0))
some_made A n o zero t m e = absurd (none-ne-some t (sym m ∙ e))
some_made A n o (suc i) t m e = rw (eqb-suc-zero i) tt

other : (a b : ℕ) → (a ≡ b → ⊥) → eqb a b ≡ false
other a b h = go (eqb a b) refl
  where
    go : (x : Bool) → eqb a b ≡ x → x ≡ false
    go false e = refl
    go true e = absurd (h (eqb→eq a b (rw e tt)))

-- the trees of marked states
trees_some : (M : List (Option Tree)) (cs : List ℕ) → ((k : ℕ) → k < length cs → (t : Tree) × (get_or M (get_or cs k unused) none ≡ some t)) → (ts : List Tree) × (trees_in M cs ≡ some ts)
trees_some M [] h = ([], refl)
trees_some M (c ∷ cs) h =
    let (t, e) = h 0 (omega arith) in
    let (ts, es) = trees_some M cs (λ k l. h (suc k) (omega arith)) in
    (t ∷ ts, ap (λ o. and_then o (λ u. and_then (trees_in M cs) (λ us. some (u ∷ us)))) e ∙ ap (λ o. and_then o (λ us. some (t ∷ us))) es)

pub trees_each : (M : List (Option Tree)) (cs : List ℕ) (ts : List Tree) → trees_in M cs ≡ some ts → (k : ℕ) → k < length cs → (t : Tree) × (get_or M (get_or cs k unused) none ≡ some t)
trees_each M [] ts e k l = let z : ⊥ = omega arith in absurd z
trees_each M (c ∷ cs) ts e zero l = let (t, et, e₁) = then_some (get_or M c none) _ e in (t, et)
trees_each M (c ∷ cs) ts e (suc k) l =
    let (t, et, e₁) = then_some (get_or M c none) _ e in
    let (us, eu, e₂) = then_some (trees_in M cs) _ e₁ in
    trees_each M cs us eu k (omega arith)

module _ (A : Automaton) (sound : Sound A) (n : ℕ) (marks : List ℕ) (m : Marked A n marks) where
  module _ (i : ℕ) (l : i < length A.rules) where
    child : (k : ℕ) → k < length (rule_at A i).children → place (rule_at A i) k < length A.states
    child k h = sound.wellformed.children (rule_at A i) (in_get_d no_rule A.rules i l) (place (rule_at A i) k) (in_get_d unused (rule_at A i).children k h)

    ready_trees : ready? marks (rule_at A i) ≡ true → (ts : List Tree) × (trees_in (rounds A n) (rule_at A i).children ≡ some ts)
    unfolding child_marked? marked?
    ready_trees e =
        trees_some (rounds A n) (rule_at A i).children
        (λ k h. made_some A n (get_or (rounds A n) (place (rule_at A i) k) none) (get_or marks (place (rule_at A i) k) 0) (m.each (place (rule_at A i) k) (child k h)) (all_at (length (rule_at A i).children) (child_marked? marks (rule_at A i)) ((T_true (ready? marks (rule_at A i))).1 e) k h))

    trees_ready : (ts : List Tree) → trees_in (rounds A n) (rule_at A i).children ≡ some ts → T (ready? marks (rule_at A i))
    unfolding child_marked? marked?
    trees_ready ts e =
        all_of (length (rule_at A i).children) (child_marked? marks (rule_at A i))
        (λ k h. let (t, et) = trees_each (rounds A n) (rule_at A i).children ts e k h in some_made A n (get_or (rounds A n) (place (rule_at A i) k) none) (get_or marks (place (rule_at A i) k) 0) t (m.each (place (rule_at A i) k) (child k h)) et)

    -- a rule that is not ready leads nowhere
    not_ready : (q : ℕ) → ready? marks (rule_at A i) ≡ false → by_rule (rounds A n) q (rule_at A i) ≡ none
    not_ready q e = go (eqb (rule_at A i).target q) (trees_in (rounds A n) (rule_at A i).children) refl
      where
        go : (b : Bool) (o : Option (List Tree)) → trees_in (rounds A n) (rule_at A i).children ≡ o → when? b (and_then o (topped (rule_at A i))) ≡ none
        go false o f = refl
        go true none f = refl
        go true (some ts) f = absurd (subst T e (trees_ready ts f))

    elsewhere : (q : ℕ) → ((rule_at A i).target ≡ q → ⊥) → by_rule (rounds A n) q (rule_at A i) ≡ none
    elsewhere q h = ap (λ b. when? b (and_then (trees_in (rounds A n) (rule_at A i).children) (topped (rule_at A i)))) (other (rule_at A i).target q h)

    there_by : (q : ℕ) → (rule_at A i).target ≡ q → (ts : List Tree) → trees_in (rounds A n) (rule_at A i).children ≡ some ts → by_rule (rounds A n) q (rule_at A i) ≡ some (node (rule_at A i).symbol 0 0 (forest ts))
    there_by q p ts e =
        ap (λ b. when? b (and_then (trees_in (rounds A n) (rule_at A i).children) (topped (rule_at A i)))) (eq-eqb (rule_at A i).target q p)
        ∙ ap (λ o. and_then o (topped (rule_at A i))) e

  later : (o : Option Tree) (x : ℕ) → Made A n o x → Made A (suc n) o x
  later o zero h = h
  later o (suc i) h = record { known = h.known; under = h.under; marked = trees_stay A n (suc n) (omega arith) (rule_at A i).children h.under h.marked; is = h.is }

  module _ (next added : List ℕ) (count : ℕ) (t : Tried A marks (λ j. true) next added count) (q : ℕ) (lq : q < length A.states) where
    -- rules before the one that marks q lead nowhere; where none marks it, all do
    none_below : get_or marks q 0 ≡ 0 → (j : ℕ) → j < length A.rules → (get_or next q 0 ≡ 0) ⊎ (suc j < get_or next q 0) → by_rule (rounds A n) q (rule_at A j) ≡ none
    none_below z j l h = go (ℕ_discrete (rule_at A j).target q) (ready? marks (rule_at A j)) refl
      where
        go : Dec ((rule_at A j).target ≡ q) → (b : Bool) → ready? marks (rule_at A j) ≡ b → by_rule (rounds A n) q (rule_at A j) ≡ none
        go (no p) b e = elsewhere j l q p
        go (yes p) false e = not_ready j l q e
        go (yes p) true e = let (a, b) = t.first q j (record { known = l; target = p; ready = e }) tt z in absurd (⊎_elim a (λ w. omega arith) h)

    at_round : (o : Option Tree) → get_or (rounds A n) q none ≡ o → get_or (rounds A (suc n)) q none ≡ or_else o (by_first (rounds A n) q A.rules)
    at_round o e = round_at A (rounds A n) q lq ∙ ap (λ z. or_else z (by_first (rounds A n) q A.rules)) e

    now_marked : get_or marks q 0 ≡ 0 → get_or (rounds A n) q none ≡ none → (x : ℕ) → get_or next q 0 ≡ x → Made A (suc n) (get_or (rounds A (suc n)) q none) x
    now_marked z o zero e = at_round none o ∙ by_none (rounds A n) q A.rules (λ j l. none_below z j l (inl e))
    now_marked z o (suc i) e =
        let R = t.by q i z e in
        let (ts, et) = ready_trees i R.known R.ready in
        record {
          known = R.known;
          under = ts;
          marked = trees_stay A n (suc n) (omega arith) (rule_at A i).children ts et;
          is = at_round none o ∙ by_some (rounds A n) q A.rules i (node (rule_at A i).symbol 0 0 (forest ts)) R.known (λ j l. none_below z j (omega (arith, R.known)) (inr (omega arith))) (there_by i R.known q R.target ts et);
        }

    each_next : (x : ℕ) → get_or marks q 0 ≡ x → Made A n (get_or (rounds A n) q none) x → Made A (suc n) (get_or (rounds A (suc n)) q none) (get_or next q 0)
    each_next zero e h = now_marked e h (get_or next q 0) refl
    each_next (suc k) e h =
        subst (Made A (suc n) (get_or (rounds A (suc n)) q none)) (sym (t.keeps q (λ z. omega arith) ∙ e))
        (later (get_or (rounds A (suc n)) q none) (suc k) (subst (λ o. MadeBy A n o k) (h.is ∙ sym (at_round _ h.is)) h))

  -- THE ROUND
  pub next_marked : (next added : List ℕ) (count : ℕ) → Tried A marks (λ j. true) next added count → Marked A (suc n) next
  next_marked next added count t = record { long = t.long; each = λ q l. each_next next added count t q l (get_or marks q 0) refl (m.each q l) }
