-- Rigid tree automata as source document 004 has them (section 1, "Tree automata"; section 2.1, Definition 1), apart from `Accepts`. Assumes nothing.
use Rattle.std.specs.Prelude.{◌≡◌, Bool, ◌&&◌, not, ℕ, ◌<◌, T, length}
use mathlib.Core.List.{List, [], ◌∷◌, ◌++◌, Memᴰ as In}
use Rattle.std.proofs.Math.Option.{some}
use Rattle.model.specs.Lists.{tab, all_below, any_below}
use Rattle.model.specs.Tree.{Tree, node, at, children_of}
use Rattle.model.specs.Automaton.{Rule, Automaton, final?, carries?}
use Rattle.model.specs.Fit.{Fit}
use Rattle.model.specs.Witness.{Apart, apart?}

-- A function symbol of the paper: one of our symbols with a scalar, since equality looks at the scalar too.
pub record Letter : Type 0 where
  pub symbol : ℕ
  pub kind : ℕ
  pub payload : ℕ

-- the function symbol t(p) at a position, u being the subtree t|p there
abbrev pub letter_at : Tree → Letter
letter_at (node s k p f) = record { symbol = s; kind = k; payload = p }

-- ⟨Q, R, F, Δ⟩ on a signature Σ: `signature f n` is f ∈ Σₙ; states, rigid and final states; `rule f (q₁ .. qₙ) q` is f(q₁, .., qₙ) → q in Δ.
pub record Rigid : Type 1 where
  pub signature : Letter → ℕ → Type 0
  pub state : ℕ → Type 0
  pub rigid : ℕ → Type 0
  pub final : ℕ → Type 0
  pub rule : Letter → List ℕ → ℕ → Type 0

-- What the definition asks of the tuple: Σ is finite (a letter is three numbers, and those of Σ are below some number), each letter has one arity, Q is
-- finite, R and F are subsets of Q, and the rules are over Σ and Q.
pub record IsRigid (M : Rigid) : Type 0 where
  pub finite_signature : (n : ℕ) × ((f : Letter) (k : ℕ) → M.signature f k → (f.symbol < n) × (f.kind < n) × (f.payload < n))
  pub one_arity : (f : Letter) (k l : ℕ) → M.signature f k → M.signature f l → k ≡ l
  pub finite_states : (n : ℕ) × ((q : ℕ) → M.state q → q < n)
  pub rigid_states : (q : ℕ) → M.rigid q → M.state q
  pub final_states : (q : ℕ) → M.final q → M.state q
  pub over_symbols : (f : Letter) (qs : List ℕ) (q : ℕ) → M.rule f qs q → M.signature f (length qs)
  pub over_states : (f : Letter) (qs : List ℕ) (q : ℕ) → M.rule f qs q → (p : ℕ) → In p (q ∷ qs) → M.state p

-- t is a ground term over Σ: at each position stands a function symbol with as many children as its arity.
abbrev pub Ground : Rigid → Tree → Type 0
Ground M t = (p : List ℕ) (u : Tree) → at t p ≡ some u → M.signature (letter_at u) (length (children_of u))

-- A run r of ta(M) on t: at each position p, where f stands, Δ has f(r(p1), .., r(pn)) → r(p). Child numbers start at 0 here.
pub record TreeRun (M : Rigid) (t : Tree) (r : List ℕ → ℕ) : Type 0 where
  pub states : (p : List ℕ) (u : Tree) → at t p ≡ some u → M.state (r p)
  pub rules : (p : List ℕ) (u : Tree) → at t p ≡ some u → M.rule (letter_at u) (tab (length (children_of u)) (λ j. r (p ++ j ∷ []))) (r p)

-- A run of M besides has t|p₁ = t|p₂ wherever r(p₁) = r(p₂) ∈ R.
pub record RigidRun (M : Rigid) (t : Tree) (r : List ℕ → ℕ) : Type 0 where
  pub run : TreeRun M t r
  pub equal : (p₁ p₂ : List ℕ) (u₁ u₂ : Tree) → at t p₁ ≡ some u₁ → at t p₂ ≡ some u₂ → r p₁ ≡ r p₂ → M.rigid (r p₁) → u₁ ≡ u₂

-- t is in the language of M: a ground term with a successful run, one whose root's state is in F.
pub record Recognizes (M : Rigid) (t : Tree) : Type 0 where
  pub ground : Ground M t
  pub labels : List ℕ → ℕ
  pub run : RigidRun M t labels
  pub success : M.final (labels [])

-- The automaton of the paper that one of ours is: the letters are the symbols with the scalars that a row may hold, bare where there are children; the tagged
-- states are rigid, and a rule stands for one rule per letter.
abbrev pub rigid_of : Automaton → Rigid
rigid_of A =
    record {
      signature = λ f n. Fit A f.symbol f.kind f.payload n;
      state = λ q. q < length A.states;
      rigid = λ q. (k : ℕ) × (k < A.tags) × T (carries? A q k);
      final = λ q. T (final? A q);
      rule = λ f qs q. Fit A f.symbol f.kind f.payload (length qs) × (r : Rule) × In r A.rules × (r.symbol ≡ f.symbol) × (r.children ≡ qs) × (r.target ≡ q);
    }

-- Each tag has exactly one state, and no state has two tags.
pub record Papers (A : Automaton) : Type 0 where
  pub some_state : (k : ℕ) → k < A.tags → (q : ℕ) × (q < length A.states) × T (carries? A q k)
  pub one_state : Apart A
  pub one_tag : (q k k' : ℕ) → k < A.tags → k' < A.tags → T (carries? A q k) → T (carries? A q k') → k ≡ k'

-- the same as a test: each tag has a state, no two states share one, and no state has two
abbrev pub tagged? : Automaton → Bool
tagged? A = all_below A.tags (λ k. any_below (length A.states) (λ q. carries? A q k))

abbrev pub one_tag? : Automaton → Bool
one_tag? A = all_below (length A.states) (λ q. all_below A.tags (λ k. all_below k (λ j. not (carries? A q j && carries? A q k))))

abbrev pub papers? : Automaton → Bool
papers? A = tagged? A && (apart? A && one_tag? A)
