-- A tree with a run has its root's state marked after as many rounds as it has levels; so an automaton without a witness accepts no tree. Rules alone are used, never tags. Assumes nothing.
use mathlib.Core.Path.{◌≡◌, refl, sym, subst}
use mathlib.Core.Option.{Option, none, some}
use mathlib.Core.List.Memᴰ.{head as here}
use mathlib.Core.List.Memᴰ.{tail as there}
use mathlib.Core.List.{List, [], ◌∷◌, Memᴰ as In}
use mathlib.Core.Bool.{Bool, true, false}
use Prim.Native.Nat.{ℕ, zero, suc, ◌<◌, ◌≤◌}
use native.Mathlib.Omega.{arith}
use lib.Dec.{T, eqb, eqb_refl}
use lib.ListN.{length, get_or}
use Rattle.model.specs.Tree.{Tree, Forest, node, fnil, fcons, trees, and_then, levels, highest}
use Rattle.model.specs.Automaton.{Rule, Automaton, Wellformed}
use Rattle.model.specs.Run.{IsRun, Accepts}
use Rattle.model.specs.Lists.{or_else}
use Rattle.model.specs.Witness.{when?, Marks, trees_in, topped, by_rule, by_first, next_round, rounds, first_final, witness}
use Rattle.model.proofs.Levels.{larger_bounds}
use Rattle.model.proofs.Rounds.{round_at}
use Rattle.model.proofs.FirstRound.{none_final, no_witness}
use Rattle.model.proofs.Runs.{child_run, leaf}

-- whether an option is there
abbrev pub some? : {A : Type 0} → Option A → Type 0
some? none = ⊥
some? (some a) = Unit {0}

module _ {A : Type 0} where
  pub not_none : (o : Option A) → o ≡ none → some? o → ⊥
  not_none o e h = subst some? e h

  or_left : (a b : Option A) → some? a → some? (or_else a b)
  or_left none b h = absurd h
  or_left (some x) b h = tt

  or_right : (a b : Option A) → some? b → some? (or_else a b)
  or_right none b h = h
  or_right (some x) b h = tt

  when_there : (b : Bool) (o : Option A) → T b → some? o → some? (when? b o)
  when_there true o t h = h
  when_there false o t h = absurd t

then_there : {A B : Type 0} (o : Option A) (f : A → Option B) → some? o → ((a : A) → some? (f a)) → some? (and_then o f)
then_there none f h g = absurd h
then_there (some a) f h g = g a

trees_there : (M : Marks) (qs : List ℕ) → ((j : ℕ) → j < length qs → some? (get_or M (get_or qs j 0) none)) → some? (trees_in M qs)
trees_there M [] h = tt
trees_there M (q ∷ qs) h = then_there (get_or M q none) _ (h 0 (omega arith)) (λ t. then_there (trees_in M qs) _ (trees_there M qs (λ j l. h (suc j) (omega arith))) (λ ts. tt))

first_there : (M : Marks) (r : Rule) (rs : List Rule) → In r rs → some? (trees_in M r.children) → some? (by_first M r.target rs)
first_there M r rs (here {x = s} {xs = ss} e) h =
    or_left (by_rule M r.target s) (by_first M r.target ss)
    (subst (λ z. some? (by_rule M r.target z)) e (when_there (eqb r.target r.target) _ (eqb_refl r.target) (then_there (trees_in M r.children) (topped r) h (λ ts. tt))))
first_there M r rs (there {x = s} {xs = ss} m) h = or_right (by_rule M r.target s) (by_first M r.target ss) (first_there M r ss m h)

module _ (A : Automaton) (wellformed : Wellformed A) where
  -- a rule whose children's states are marked marks its target in the next round
  by_rule_lem : (M : Marks) (r : Rule) → In r A.rules → ((j : ℕ) → j < length r.children → some? (get_or M (get_or r.children j 0) none)) → some? (get_or (next_round A M) r.target none)
  by_rule_lem M r ir h =
      rw (round_at A M r.target (wellformed.targets r ir))
      (or_right (get_or M r.target none) (by_first M r.target A.rules) (first_there M r A.rules ir (trees_there M r.children h)))

  mutual
    unfolding levels

    pub run_marked : (t : Tree) (n : ℕ) → levels t ≤ n → (ρ : List ℕ → ℕ) → IsRun A t ρ → some? (get_or (rounds A n) (ρ []) none)
    run_marked (node s k x f) zero l ρ runs = let z : ⊥ = omega arith in absurd z
    run_marked (node s k x f) (suc n) l ρ runs =
        let st = runs [] (node s k x f) refl in
        subst (λ q. some? (get_or (rounds A (suc n)) q none)) st.leads
        (by_rule_lem (rounds A n) st.rule st.listed
        (λ j h.
        let i : j < length (trees f) = omega (arith, st.as_many) in
        subst (λ q. some? (get_or (rounds A n) q none)) (sym (st.from j i)) (runs_marked f n (omega arith) j i (λ p. ρ (j ∷ p)) (child_run (node s k x f) ρ runs j i))))

    runs_marked : (f : Forest) (n : ℕ) → highest f ≤ n → (j : ℕ) → j < length (trees f) → (ρ : List ℕ → ℕ) → IsRun A (get_or (trees f) j leaf) ρ → some? (get_or (rounds A n) (ρ []) none)
    runs_marked fnil n l j i ρ runs = let z : ⊥ = omega arith in absurd z
    runs_marked (fcons t f) n l zero i ρ runs = run_marked t n (omega (arith, larger_bounds (levels t) (highest f))) ρ runs
    runs_marked (fcons t f) n l (suc j) i ρ runs = runs_marked f n (omega (arith, larger_bounds (levels t) (highest f))) j (omega arith) ρ runs

  -- after as many rounds as an accepted tree has levels, a final state is marked
  pub final_marked : (t : Tree) → Accepts A t → first_final A (rounds A (levels t)) 0 ≡ none → ⊥
  final_marked t w e =
      not_none (get_or (rounds A (levels t)) (w.run []) none)
      (none_final A (rounds A (levels t)) e (w.run []) w.accepting)
      (run_marked t (levels t) (omega arith) w.run w.runs)

  -- THE THEOREM
  pub dead : witness A ≡ none → (t : Tree) → Accepts A t → ⊥
  dead e t w = final_marked t w ((no_witness A).0 e (levels t))
