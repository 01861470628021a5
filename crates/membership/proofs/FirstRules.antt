-- The first rule of each symbol, symbol by symbol. Assumes nothing.
use mathlib.Core.Path.{◌≡◌, sym, ap, ◌∙◌, subst}
use mathlib.Core.List.{List}
use Prim.Native.Nat.{ℕ, ◌+◌, ◌<◌, ◌≤◌}
use native.Mathlib.Omega.{arith}
use native.Mathlib.Decide.{ℕ_discrete}
use lib.ListN.{length, get_or, set, length-set}
use lib.Seq.{get_or-set_same, get_or-set_other}
use Rattle.model.specs.Automaton.{Automaton}
use Rattle.automaton.specs.Window.{FirstFrom}
use Rattle.membership.specs.Plan.{FirstRules}

-- the symbols below k have theirs
pub record Ruling (A : Automaton) (out : List ℕ) (k : ℕ) : Type 0 where
  pub inside : k ≤ 65
  pub wide : length out ≡ 65
  pub done : (f : ℕ) → f < k → FirstFrom A f (get_or out f 0)

module _ (A : Automaton) (out : List ℕ) where
  pub ruling_more : (k v x : ℕ) → Ruling A out k → k < 65 → x ≡ k → FirstFrom A x v → Ruling A (set out k v) (k + 1)
  ruling_more k v x h l e first =
      record { inside = omega arith; wide = length-set out k v ∙ h.wide; done = λ f m. go f m (ℕ_discrete f k) }
    where
      go : (f : ℕ) → f < k + 1 → Dec (f ≡ k) → FirstFrom A f (get_or (set out k v) f 0)
      go f m (yes q) = subst (λ z. FirstFrom A z (get_or (set out k v) z 0)) (sym q) (subst (FirstFrom A k) (sym (get_or-set_same out k v 0 (omega (arith, h.wide)))) (subst (λ z. FirstFrom A z v) e first))
      go f m (no q) = subst (FirstFrom A f) (sym (get_or-set_other out k f v 0 q)) (h.done f (omega (arith, q)))

  pub ruling_all : (k : ℕ) → Ruling A out k → 65 ≤ k → FirstRules A out
  ruling_all k h l f m = h.done f (omega arith)

-- what stands there for symbol k, read at a place that is its number
pub first_at : (A : Automaton) (firsts : List ℕ) (k x v : ℕ) → FirstRules A firsts → k ≤ 64 → x ≡ k → v ≡ get_or firsts x 0 → FirstFrom A k v
first_at A firsts k x v h l e ev = subst (FirstFrom A k) (sym (ev ∙ ap (λ z. get_or firsts z 0) e)) (h k l)
