-- Levels of a tree, of its children and of its subtrees. Assumes nothing.
use mathlib.Core.Path.{◌≡◌, refl, ap}
use mathlib.Core.Option.{Option, some, some-injective, none-ne-some}
use mathlib.Core.List.Memᴰ.{head as here}
use mathlib.Core.List.Memᴰ.{tail as there}
use mathlib.Core.List.{List, [], ◌∷◌, Memᴰ as In}
use mathlib.Core.Bool.{Bool, true, false, cond}
use Prim.Native.Nat.{ℕ, zero, suc, ◌≤◌}
use native.Mathlib.Omega.{arith}
use lib.Dec.{leb, leb→le, nleb→lt}
use lib.ListN.{get_elem?}
use Rattle.model.specs.Lists.{larger}
use Rattle.model.specs.Tree.{Tree, Forest, node, fnil, fcons, trees, forest, at, and_then, levels, highest}

pub larger_bounds : (a b : ℕ) → (a ≤ larger a b) × (b ≤ larger a b)
larger_bounds a b = go (leb a b) refl
  where
    go : (c : Bool) → leb a b ≡ c → (a ≤ cond c b a) × (b ≤ cond c b a)
    go true e = (leb→le a b (rw e tt), omega arith)
    go false e = (omega arith, let l = nleb→lt a b (rw e tt) in omega arith)

pub larger_least : (a b n : ℕ) → a ≤ n → b ≤ n → larger a b ≤ n
larger_least a b n la lb = go (leb a b)
  where
    go : (c : Bool) → cond c b a ≤ n
    go true = lb
    go false = la

pub highest_least : (ts : List Tree) (n : ℕ) → ((t : Tree) → In t ts → levels t ≤ n) → highest (forest ts) ≤ n
unfolding levels
highest_least [] n h = omega arith
highest_least (t ∷ ts) n h = larger_least (levels t) (highest (forest ts)) n (h t (here refl)) (highest_least ts n (λ u m. h u (there m)))

-- the subtree at a position below the j-th tree
abbrev pub at_in : Forest → ℕ → List ℕ → Option Tree
at_in f j p = and_then (get_elem? (trees f) j) (λ u. at u p)

-- a subtree has no more levels
mutual
  unfolding levels

  pub sub_levels : (t : Tree) (p : List ℕ) (u : Tree) → at t p ≡ some u → levels u ≤ levels t
  sub_levels (node s k x f) [] u e = let q = ap levels (some-injective _ _ e) in omega arith
  sub_levels (node s k x f) (j ∷ p) u e = let l = below_levels f j p u e in omega arith

  pub below_levels : (f : Forest) (j : ℕ) (p : List ℕ) (u : Tree) → at_in f j p ≡ some u → levels u ≤ highest f
  below_levels fnil j p u e = absurd (none-ne-some u e)
  below_levels (fcons t f) zero p u e = let l = sub_levels t p u e in omega (arith, larger_bounds (levels t) (highest f))
  below_levels (fcons t f) (suc j) p u e = let l = below_levels f j p u e in omega (arith, larger_bounds (levels t) (highest f))
