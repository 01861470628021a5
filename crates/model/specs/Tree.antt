-- Trees with scalars, positions, and levels (document 01, section "Documents"). Assumes nothing.
use Rattle.std.specs.Prelude.{List, [], ◌∷◌, ℕ, suc}
use Rattle.std.proofs.Math.Option.{Option, none, some}
use Rattle.std.proofs.Math.ListN.{get_elem?}
use Rattle.model.specs.Lists.{larger}

-- A tree: a symbol, a scalar (its kind and payload; a bare one is 0 and 0) and its children.
mutual
  pub data Tree : Type 0 where
    node : ℕ → ℕ → ℕ → Forest → Tree

  pub data Forest : Type 0 where
    fnil : Forest
    fcons : Tree → Forest → Forest

abbrev pub trees : Forest → List Tree
trees fnil = []
trees (fcons t f) = t ∷ trees f

abbrev pub forest : List Tree → Forest
forest [] = fnil
forest (t ∷ ts) = fcons t (forest ts)

abbrev pub symbol_of : Tree → ℕ
symbol_of (node s k p f) = s

abbrev pub children_of : Tree → List Tree
children_of (node s k p f) = trees f

abbrev pub and_then : {A B : Type 0} → Option A → (A → Option B) → Option B
and_then none f = none
and_then (some a) f = f a

-- The subtree at a position: the child numbers on the way from the root.
abbrev pub at : Tree → List ℕ → Option Tree
at t [] = some t
at t (j ∷ p) = and_then (get_elem? (children_of t) j) (λ u. at u p)

-- Height of a leaf is 1, of another tree one more than its highest child's.
unfoldable mutual
  pub levels : Tree → ℕ
  levels (node s k p f) = suc (highest f)

  pub highest : Forest → ℕ
  highest fnil = 0
  highest (fcons t f) = larger (levels t) (highest f)
