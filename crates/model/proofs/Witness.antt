-- A marked tree has a run from its state at whose positions stand the trees that are marked for their states. Assumes nothing.
use mathlib.Core.Path.{◌≡◌, refl, sym, ap, ◌∙◌, subst}
use mathlib.Core.Logic.{◌⊎◌, inl, inr, ⊎_elim}
use mathlib.Core.Option.{Option, none, some, some-injective, none-ne-some}
use mathlib.Core.List.Memᴰ.{head as here}
use mathlib.Core.List.Memᴰ.{tail as there}
use mathlib.Core.List.{List, [], ◌∷◌, Memᴰ as In}
use mathlib.Core.Bool.{Bool, true, false}
use Prim.Native.Nat.{ℕ, zero, suc, ◌<◌}
use native.Mathlib.Omega.{arith}
use lib.Dec.{T, eqb, eqb→eq}
use lib.ListN.{length, get_or}
use Rattle.model.specs.Tree.{Tree, node, forest, and_then}
use Rattle.model.specs.Automaton.{Rule, Automaton}
use Rattle.model.specs.Lists.{tab, or_else}
use Rattle.model.specs.Witness.{when?, trees_in, topped, by_rule, by_first, next_round, no_marks}
use Rattle.model.proofs.Tab.{tab_at}
use Rattle.model.proofs.Rows.{trees_forest}
use Rattle.model.proofs.Runs.{Runs, finer, node_runs, leaf}

module _ {A B : Type 0} where
  pub then_some : (o : Option A) (f : A → Option B) {b : B} → and_then o f ≡ some b → (a : A) × (o ≡ some a) × (f a ≡ some b)
  then_some none f {b = b} e = absurd (none-ne-some b e)
  then_some (some a) f e = (a, refl, e)

module _ {A : Type 0} where
  pub or_cases : (a b : Option A) {t : A} → or_else a b ≡ some t → (a ≡ some t) ⊎ (b ≡ some t)
  or_cases none b e = inr e
  or_cases (some a) b e = inl e

  pub or_none : (a b : Option A) → or_else a b ≡ none → (a ≡ none) × (b ≡ none)
  or_none none b e = (refl, e)
  or_none (some a) b e = absurd (none-ne-some a (sym e))

  pub when_some : (b : Bool) (o : Option A) {t : A} → when? b o ≡ some t → T b × (o ≡ some t)
  when_some true o e = (tt, e)
  when_some false o {t = t} e = absurd (none-ne-some t e)

  pub tab_some : (n : ℕ) (f : ℕ → Option A) (k : ℕ) {t : A} → get_or (tab n f) k none ≡ some t → (k < n) × (f k ≡ some t)
  tab_some zero f k {t = t} e = absurd (none-ne-some t e)
  tab_some (suc n) f zero e = (omega arith, e)
  tab_some (suc n) f (suc k) e = let r = tab_some n (λ i. f (suc i)) k e in (omega arith, r.1)

module _ (A : Automaton) where
  -- a run of `t` from `q` at whose positions stand the trees that are marked for their states
  abbrev pub Marked : List (Option Tree) → ℕ → Tree → Type 0
  Marked M q t = get_or M q none ≡ some t

  abbrev pub Homely : List (Option Tree) → Type 0
  Homely M = (q : ℕ) (t : Tree) → get_or M q none ≡ some t → Runs A (Marked M) t q

  abbrev pub Onto : List (Option Tree) → List (Option Tree) → Type 0
  Onto M N = (q : ℕ) (t : Tree) → get_or M q none ≡ some t → get_or N q none ≡ some t

  abbrev pub Kids : List (Option Tree) → List ℕ → List Tree → Type 0
  Kids M qs ts = (length qs ≡ length ts) × ((j : ℕ) → j < length ts → Runs A (Marked M) (get_or ts j leaf) (get_or qs j 0))

  pub kids : (M : List (Option Tree)) → Homely M → (qs : List ℕ) (ts : List Tree) → trees_in M qs ≡ some ts → Kids M qs ts
  kids M h [] ts e = subst (Kids M []) (some-injective _ _ e) (refl, λ j l. let z : ⊥ = omega arith in absurd z)
  kids M h (q ∷ qs) ts e =
      let (t, et, e₁) = then_some (get_or M q none) _ e in
      let (us, eu, e₂) = then_some (trees_in M qs) _ e₁ in
      let (el, each) = kids M h qs us eu in
      subst (Kids M (q ∷ qs)) (some-injective _ _ e₂)
      (ap suc el, elim [ zero ↦ λ l. h q t et | suc i ↦ λ l. each i (omega arith) ])

  -- the rule that marks a state
  pub record By (M : List (Option Tree)) (q : ℕ) (rs : List Rule) (t : Tree) : Type 0 where
    pub rule : Rule
    pub listed : In rule rs
    pub target : rule.target ≡ q
    pub under_it : List Tree
    pub marked : trees_in M rule.children ≡ some under_it
    pub is : node rule.symbol 0 0 (forest under_it) ≡ t

  pub by_first_lem : (M : List (Option Tree)) (q : ℕ) (rs : List Rule) (t : Tree) → by_first M q rs ≡ some t → By M q rs t
  by_first_lem M q [] t e = absurd (none-ne-some t e)
  by_first_lem M q (r ∷ rs) t e =
      ⊎_elim
      (λ a.
      let (b, c) = when_some (eqb r.target q) (and_then (trees_in M r.children) (topped r)) a in
      let (ts, et, e') = then_some (trees_in M r.children) (topped r) c in
      record { rule = r; listed = here refl; target = eqb→eq _ _ b; under_it = ts; marked = et; is = some-injective _ _ e' })
      (λ a. let s = by_first_lem M q rs t a in record { rule = s.rule; listed = there s.listed; target = s.target; under_it = s.under_it; marked = s.marked; is = s.is })
      (or_cases (by_rule M q r) (by_first M q rs) e)

  -- a tree made by a rule from marked trees, once it is marked itself
  top_run : (M N : List (Option Tree)) → Onto M N → (r : Rule) → In r A.rules → (ts : List Tree) → Kids M r.children ts → get_or N r.target none ≡ some (node r.symbol 0 0 (forest ts)) → Runs A (Marked N) (node r.symbol 0 0 (forest ts)) r.target
  top_run M N o r ir ts (el, each) e = node_runs (node r.symbol 0 0 (forest ts)) ts (trees_forest ts) r ir refl el e (λ j l. finer o (each j l))

  -- marks stay in range, and a round keeps what is marked
  abbrev pub InRange : List (Option Tree) → Type 0
  InRange M = (q : ℕ) (t : Tree) → get_or M q none ≡ some t → q < length A.states

  pub kept : (M : List (Option Tree)) → InRange M → Onto M (next_round A M)
  kept M i q t e =
      tab_at none (length A.states) (λ z. or_else (get_or M z none) (by_first M z A.rules)) q (i q t e)
      ∙ ap (λ o. or_else o (by_first M q A.rules)) e

  pub in_range : (M : List (Option Tree)) → InRange (next_round A M)
  in_range M q t e = (tab_some (length A.states) (λ z. or_else (get_or M z none) (by_first M z A.rules)) q e).0

  pub next_homely : (M : List (Option Tree)) → InRange M → Homely M → Homely (next_round A M)
  next_homely M i h q t e =
      let (l, e₁) = tab_some (length A.states) (λ z. or_else (get_or M z none) (by_first M z A.rules)) q e in
      ⊎_elim
      (λ a. finer (kept M i) (h q t a))
      (λ a. by q t e (by_first_lem M q A.rules t a))
      (or_cases (get_or M q none) (by_first M q A.rules) e₁)
    where
      by : (q : ℕ) (t : Tree) → get_or (next_round A M) q none ≡ some t → By M q A.rules t → Runs A (Marked (next_round A M)) t q
      by q t e b =
          subst (λ z. Runs A (Marked (next_round A M)) t z) b.target
          (subst (λ z. Runs A (Marked (next_round A M)) z b.rule.target) b.is
          (top_run M (next_round A M) (kept M i) b.rule b.listed b.under_it (kids M h b.rule.children b.under_it b.marked)
          (ap (λ z. get_or (next_round A M) z none) b.target ∙ e ∙ ap some (sym b.is))))

  pub none_marked : (q : ℕ) (t : Tree) → get_or (no_marks A) q none ≡ some t → ⊥
  none_marked q t e = none-ne-some t (tab_some (length A.states) (λ z. none) q e).1
