-- Trees that fit the symbols of an automaton: those of sound tables. Assumes nothing.
use Rattle.std.specs.Prelude.{◌≡◌, ℕ, ◌<◌, T, length}
use Rattle.model.specs.Tree.{Tree, Forest, node, fnil, fcons, trees}
use Rattle.model.specs.Automaton.{Automaton, arity_of}
use Rattle.model.specs.Table.{scalar?}

-- A node's symbol s, scalar (kind k, payload p) and number n of children are as `SoundRow` asks of a row.
pub record Fit (A : Automaton) (s k p n : ℕ) : Type 0 where
  pub known : s < length A.arities
  pub as_many : n ≡ arity_of A s
  pub scalar : T (scalar? k p)
  pub bare : 0 < arity_of A s → (k ≡ 0) × (p ≡ 0)

-- the root fits
abbrev pub FitNode : Automaton → Tree → Type 0
FitNode A (node s k p f) = Fit A s k p (length (trees f))

-- Every node fits.
unfoldable mutual
  pub FitTree : Automaton → Tree → Type 0
  FitTree A (node s k p f) = Fit A s k p (length (trees f)) × FitForest A f

  pub FitForest : Automaton → Forest → Type 0
  FitForest A fnil = Unit {0}
  FitForest A (fcons t f) = FitTree A t × FitForest A f
