-- Isolating rigid tree automata as source document 000 has them (section 3; its prose and examples decide over its formula: document 02, Wish 9), apart from `Accepts`. Assumes nothing.
use Rattle.std.specs.Prelude.{◌≡◌, ◌↔◌, Bool, ◌&&◌, ℕ, T, length}
use mathlib.Core.List.{List, [], ◌∷◌, ◌++◌, Memᴰ as In}
use Rattle.std.proofs.Math.Option.{some}
use Rattle.model.specs.Lists.{tab, any_below}
use Rattle.model.specs.Tree.{Tree, at, children_of}
use Rattle.model.specs.Automaton.{Rule, Automaton, carries?, forgets?}
use Rattle.model.specs.Run.{Above}
use Rattle.model.specs.Fit.{Fit}
use Rattle.model.specs.Papers.{Letter, letter_at, Rigid, IsRigid, Ground, rigid_of}

-- A set of states, as a test.
abbrev pub States : Type 0
States = ℕ → Bool

-- ⟨F, Q, Q_F, Q_R, Δ⟩: `signature f n` is f/n ∈ F; states, rigid and final states; `rule f (q₁ .. qₙ) I q` is f⟨q₁, .., qₙ⟩ →!I q in Δ.
pub record Isolating : Type 1 where
  pub signature : Letter → ℕ → Type 0
  pub state : ℕ → Type 0
  pub rigid : ℕ → Type 0
  pub final : ℕ → Type 0
  pub rule : Letter → List ℕ → States → ℕ → Type 0

-- Without the sets I it is a rigid tree automaton.
abbrev pub bare : Isolating → Rigid
bare M = record { signature = M.signature; state = M.state; rigid = M.rigid; final = M.final; rule = λ f qs q. (I : States) × M.rule f qs I q }

-- What the definition asks of the tuple: what it asks of a rigid tree automaton, and I ⊆ Q_R.
pub record IsIsolating (M : Isolating) : Type 0 where
  pub rigid_automaton : IsRigid (bare M)
  pub isolates_rigid : (f : Letter) (qs : List ℕ) (I : States) (q : ℕ) → M.rule f qs I q → (z : ℕ) → T (I z) → M.rigid z

-- A run gives each node a state, and is reached there by a rule, which isolates the states `isolated`.
pub record IsolatingTreeRun (M : Isolating) (t : Tree) (labels : List ℕ → ℕ) (isolated : List ℕ → States) : Type 0 where
  pub states : (p : List ℕ) (u : Tree) → at t p ≡ some u → M.state (labels p)
  pub rules : (p : List ℕ) (u : Tree) → at t p ≡ some u → M.rule (letter_at u) (tab (length (children_of u)) (λ j. labels (p ++ j ∷ []))) (isolated p) (labels p)

-- "When such a rule is used in a run to reach a node ν, the equality constraint for a rigid state q ∈ I is no longer enforced between q-annotated nodes strictly
-- dominated by ν and q-annotated nodes elsewhere": no node that isolates q strictly dominates one of the two nodes alone.
abbrev pub Enforced : Tree → (List ℕ → States) → ℕ → List ℕ → List ℕ → Type 0
Enforced t isolated q p₁ p₂ = (v : List ℕ) (u : Tree) → at t v ≡ some u → T (isolated v q) → Above v p₁ ↔ Above v p₂

-- Equal subtrees at any two nodes with one rigid state between which the constraint is enforced.
pub record IsolatingRun (M : Isolating) (t : Tree) (labels : List ℕ → ℕ) (isolated : List ℕ → States) : Type 0 where
  pub run : IsolatingTreeRun M t labels isolated
  pub equal : (p₁ p₂ : List ℕ) (u₁ u₂ : Tree) → at t p₁ ≡ some u₁ → at t p₂ ≡ some u₂ → labels p₁ ≡ labels p₂ → M.rigid (labels p₁) → Enforced t isolated (labels p₁) p₁ p₂ → u₁ ≡ u₂

-- t is in the language of M: a ground term with a run whose root's state is final.
pub record Isolates (M : Isolating) (t : Tree) : Type 0 where
  pub ground : Ground (bare M) t
  pub labels : List ℕ → ℕ
  pub isolated : List ℕ → States
  pub run : IsolatingRun M t labels isolated
  pub success : M.final (labels [])

-- The states that a rule of ours isolates: those with a tag that it forgets.
abbrev pub isolated_by : Automaton → Rule → States
isolated_by A r q = any_below A.tags (λ k. carries? A q k && forgets? r k)

-- The automaton of the source that one of ours is: letters, states, rigid and final states as in source document 004.
abbrev pub isolating_of : Automaton → Isolating
isolating_of A =
    record {
      signature = (rigid_of A).signature;
      state = (rigid_of A).state;
      rigid = (rigid_of A).rigid;
      final = (rigid_of A).final;
      rule = λ f qs I q.
          Fit A f.symbol f.kind f.payload (length qs)
          × (r : Rule) × In r A.rules × (r.symbol ≡ f.symbol) × (r.children ≡ qs) × (r.target ≡ q) × ((z : ℕ) → I z ≡ isolated_by A r z);
    }
