-- Runs put together: a node's run from its children's. What holds at each position is a parameter. Assumes nothing.
use mathlib.Core.Path.{◌≡◌, refl, sym, ap, ◌∙◌, subst}
use mathlib.Core.Option.{some, some-injective, none-ne-some}
use mathlib.Core.List.{List, [], ◌∷◌, Memᴰ as In}
use Prim.Native.Nat.{ℕ, zero, suc, ◌<◌}
use native.Mathlib.Omega.{arith}
use lib.ListN.{length, get_or, get_elem?}
use Rattle.model.specs.Tree.{Tree, node, fnil, children_of, symbol_of, at, and_then}
use Rattle.model.specs.Automaton.{Rule, Automaton}
use Rattle.model.specs.Run.{Move, IsRun}

-- finitely many choices at once
pub choose : {B : Type 0} (d : B) (P : ℕ → B → Type 0) (n : ℕ) → ((j : ℕ) → j < n → (b : B) × P j b) → (f : ℕ → B) × ((j : ℕ) → j < n → P j (f j))
choose d P zero h = (λ j. d, λ j l. let z : ⊥ = omega arith in absurd z)
choose {B} d P (suc n) h =
    let (b, pb) = h zero (omega arith) in
    let (f, pf) = choose d (λ j. P (suc j)) n (λ j l. h (suc j) (omega arith)) in
    (first b f, holds b f pb pf)
  where
    first : B → (ℕ → B) → ℕ → B
    first b f zero = b
    first b f (suc j) = f j

    holds : (b : B) (f : ℕ → B) → P zero b → ((j : ℕ) → j < n → P (suc j) (f j)) → (j : ℕ) → j < suc n → P j (first b f j)
    holds b f pb pf zero l = pb
    holds b f pb pf (suc j) l = pf j (omega arith)

abbrev pub leaf : Tree
leaf = node 0 0 0 fnil

-- a position below a child: the child, and what is left of the way
pub at_kid : (t : Tree) (ts : List Tree) → children_of t ≡ ts → (j : ℕ) (p : List ℕ) (u : Tree) → at t (j ∷ p) ≡ some u → (j < length ts) × (at (get_or ts j leaf) p ≡ some u)
at_kid t ts e j p u h = go ts j (rw e at h)
  where
    go : (l : List Tree) (j : ℕ) → and_then (get_elem? l j) (λ v. at v p) ≡ some u → (j < length l) × (at (get_or l j leaf) p ≡ some u)
    go [] j g = absurd (none-ne-some u g)
    go (c ∷ l) zero g = (omega arith, g)
    go (c ∷ l) (suc j) g = let r = go l j g in (omega arith, r.1)

pub kid_at : (ts : List Tree) (j : ℕ) → j < length ts → get_elem? ts j ≡ some (get_or ts j leaf)
kid_at [] j l = let z : ⊥ = omega arith in absurd z
kid_at (t ∷ ts) zero l = refl
kid_at (t ∷ ts) (suc j) l = kid_at ts j (omega arith)

-- the run `ρ` takes `t` to `q`, and `Q` holds of the state and the subtree at each position
pub record Fine (A : Automaton) (Q : ℕ → Tree → Type 0) (t : Tree) (q : ℕ) (ρ : List ℕ → ℕ) : Type 0 where
  pub root : ρ [] ≡ q
  pub runs : IsRun A t ρ
  pub all : (p : List ℕ) (u : Tree) → at t p ≡ some u → Q (ρ p) u

abbrev pub Runs : Automaton → (ℕ → Tree → Type 0) → Tree → ℕ → Type 0
Runs A Q t q = (ρ : List ℕ → ℕ) × Fine A Q t q ρ

pub finer : {A : Automaton} {Q R : ℕ → Tree → Type 0} {t : Tree} {q : ℕ} → ((z : ℕ) (u : Tree) → Q z u → R z u) → Runs A Q t q → Runs A R t q
finer h (ρ, g) = (ρ, record { root = g.root; runs = g.runs; all = λ p u e. h (ρ p) u (g.all p u e) })

abbrev under : ℕ → (ℕ → List ℕ → ℕ) → List ℕ → ℕ
under q ρs [] = q
under q ρs (j ∷ p) = ρs j p

pub node_runs : {A : Automaton} {Q : ℕ → Tree → Type 0} (t : Tree) (ts : List Tree) → children_of t ≡ ts → (r : Rule) → In r A.rules → r.symbol ≡ symbol_of t → length r.children ≡ length ts → Q r.target t → ((j : ℕ) → j < length ts → Runs A Q (get_or ts j leaf) (get_or r.children j 0)) → Runs A Q t r.target
node_runs {A} {Q} t ts et r ir es el qt h =
    let (ρs, each) = choose (λ p. 0) (λ j. Fine A Q (get_or ts j leaf) (get_or r.children j 0)) (length ts) h in
    (under r.target ρs, record { root = refl; runs = step ρs each; all = all' ρs each })
  where
    step : (ρs : ℕ → List ℕ → ℕ) → ((j : ℕ) → j < length ts → Fine A Q (get_or ts j leaf) (get_or r.children j 0) (ρs j)) → IsRun A t (under r.target ρs)
    step ρs each [] u e =
        subst (Move A (under r.target ρs) []) (some-injective _ _ e)
        (record {
          rule = r;
          listed = ir;
          same_symbol = es;
          leads = refl;
          as_many = el ∙ ap length (sym et);
          from = λ j l. sym (each j (omega (arith, ap length et))).root;
        })
    step ρs each (j ∷ p) u e =
        let (l, e') = at_kid t ts et j p u e in
        let s = (each j l).runs p u e' in
        record { rule = s.rule; listed = s.listed; same_symbol = s.same_symbol; leads = s.leads; as_many = s.as_many; from = s.from }

    all' : (ρs : ℕ → List ℕ → ℕ) → ((j : ℕ) → j < length ts → Fine A Q (get_or ts j leaf) (get_or r.children j 0) (ρs j)) → (p : List ℕ) (u : Tree) → at t p ≡ some u → Q (under r.target ρs p) u
    all' ρs each [] u e = subst (Q r.target) (some-injective _ _ e) qt
    all' ρs each (j ∷ p) u e = let (l, e') = at_kid t ts et j p u e in (each j l).all p u e'

pub child_run : {A : Automaton} (t : Tree) (ρ : List ℕ → ℕ) → IsRun A t ρ → (j : ℕ) → j < length (children_of t) → IsRun A (get_or (children_of t) j leaf) (λ p. ρ (j ∷ p))
child_run t ρ runs j l p u e =
    let s = runs (j ∷ p) u (ap (λ o. and_then o (λ v. at v p)) (kid_at (children_of t) j l) ∙ e) in
    record { rule = s.rule; listed = s.listed; same_symbol = s.same_symbol; leads = s.leads; as_many = s.as_many; from = s.from }
