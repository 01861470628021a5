-- The windows of a row's children are opened one by one: what was opened before stays so. Assumes nothing.
use mathlib.Core.Path.{◌≡◌, sym, subst}
use mathlib.Core.List.{List}
use Prim.Native.Nat.{ℕ, ◌+◌, ◌*◌, ◌<◌, ◌≤◌}
use native.Mathlib.Omega.{arith}
use native.Mathlib.Decide.{ℕ_discrete}
use borrow.Author.Rules.{rules}
use lib.ListN.{length}
use Rattle.judging.specs.Chains.{class_in, Opened, Chained, Opening}
use Rattle.judging.specs.Search.{arity_in, low_in, high_in, Windows, Separate}
use Rattle.judging.proofs.States.{class_small, opened_after, chained_after}
use Rattle.membership.specs.declared.table.Plan.{Plan}

module _ (work : List ℕ) (plan : Plan) where
  -- the first p windows are opened
  pub record Opens (heads links : List ℕ) (p : ℕ) : Type 0 where
    pub separate : Separate plan work
    pub inside : p ≤ arity_in plan
    pub windows : Windows (class_in work) plan p heads links

  pub opens_none : (heads links : List ℕ) → Separate plan work → Opens heads links 0
  opens_none heads links s =
      record {
        separate = s;
        inside = omega arith;
        windows = record { opened = λ q l. let z : ⊥ = omega arith in absurd z; chained = λ q l. let z : ⊥ = omega arith in absurd z };
      }

  module _ (heads links : List ℕ) (p : ℕ) (o : Opens heads links p) (l : p < arity_in plan) where
    pub opens_place : p < 4
    opens_place = let f = o.separate.few_children in omega arith

    pub opens_order : low_in plan p ≤ high_in plan p
    opens_order = o.separate.order p l

    pub opens_few : high_in plan p ≤ 4096
    opens_few = o.separate.few p l

    pub opens_inside : high_in plan p * 32 ≤ length work
    opens_inside = o.separate.inside p l

    pub opens_more : (heads' links' : List ℕ) → Opening (class_in work) p (low_in plan p) (high_in plan p) heads links heads' links' → Opens heads' links' (p + 1)
    opens_more heads' links' g =
        record { separate = o.separate; inside = omega arith; windows = record { opened = λ q m. opened q m (ℕ_discrete q p); chained = λ q m. chained q m (ℕ_discrete q p) } }
      where
        opened : (q : ℕ) → q < p + 1 → Dec (q ≡ p) → Opened (class_in work) q (low_in plan q) (high_in plan q) heads'
        opened q m (yes e) = subst (λ k. Opened (class_in work) k (low_in plan k) (high_in plan k) heads') (sym e) g.opened
        opened q m (no n) = opened_after (class_in work) p (low_in plan p) (high_in plan p) heads links heads' links' g (low_in plan q) (high_in plan q) q (class_small work) n (o.windows.opened q (omega (arith, n)))

        chained : (q : ℕ) → q < p + 1 → Dec (q ≡ p) → Chained (class_in work) (low_in plan q) (high_in plan q) links'
        chained q m (yes e) = subst (λ k. Chained (class_in work) (low_in plan k) (high_in plan k) links') (sym e) g.chained
        chained q m (no n) = chained_after (class_in work) p (low_in plan p) (high_in plan p) heads links heads' links' g (low_in plan q) (high_in plan q) (o.separate.aside p q l (omega arith)) (o.windows.chained q (omega (arith, n)))

  pub opens_all : (heads links : List ℕ) (p : ℕ) → Opens heads links p → arity_in plan ≤ p → Windows (class_in work) plan (arity_in plan) heads links
  opens_all heads links p o l = let i = o.inside in let e : p ≡ arity_in plan = omega arith in subst (λ k. Windows (class_in work) plan k heads links) e o.windows

pub ruleset opens = (opens_none, opens_place, opens_order, opens_few, opens_inside, opens_more, opens_all, rules)
