-- The computed test answers whether an accepting run exists. Assumes nothing.
use mathlib.Core.Path.{◌≡◌, sym, subst}
use mathlib.Core.Logic.{◌↔◌}
use mathlib.Core.List.{List, []}
use mathlib.Core.Bool.{true}
use Prim.Native.Nat.{ℕ, ◌-◌, ◌<◌}
use native.Mathlib.Omega.{arith}
use lib.Dec.{T, eqb, eqb→eq, eqb_refl}
use lib.ListN.{length}
use Rattle.model.specs.Automaton.{Automaton, OneRule, final?}
use Rattle.model.specs.Run.{Accepts}
use Rattle.model.specs.Table.{Row, tree_of, Lower, Distinct}
use Rattle.model.specs.Annotation.{Memory, annotation, Derivable, annotations, accepting?, accepts?}
use Rattle.model.proofs.Members.{T_and, and_T, T_true, in_any, any_in}
use Rattle.model.proofs.Listed.{listed_derivable}
use Rattle.model.proofs.Leaves.{derivable_run, consistent_left}

-- an annotation of the last row in a final state
pub record Final (A : Automaton) (rows : List Row) : Type 0 where
  pub state : ℕ
  pub memory : Memory
  pub final : T (final? A state)
  pub derivable : Derivable A rows (length rows - 1) state memory

module _ (A : Automaton) (rows : List Row) (lower : Lower rows) where
  -- the computed test finds such an annotation
  pub accepts_final : T (accepts? A rows) ↔ Final A rows
  accepts_final = (
    λ h.
        let (a, ia, t) = in_any (accepting? A rows) (annotations A rows) h in
        let (tr, tf) = T_and (eqb a.row (length rows - 1)) (final? A a.state) t in
        record {
          state = a.state;
          memory = a.memory;
          final = tf;
          derivable = subst (λ z. Derivable A rows z a.state a.memory) (eqb→eq a.row (length rows - 1) tr) ((listed_derivable A rows lower a).0 ia);
        },
    λ f.
        let last = length rows - 1 in
        any_in (accepting? A rows) ((listed_derivable A rows lower (annotation last f.state f.memory)).1 f.derivable)
        (and_T (eqb last last) (final? A f.state) (eqb_refl last) f.final),
  )

module _ (A : Automaton) (rows : List Row) (some_row : 0 < length rows) (lower : Lower rows) (once : OneRule A) (distinct : Distinct rows) where
  pub final_accepts : Final A rows ↔ Accepts A (tree_of rows)
  final_accepts = (
    λ f.
        let g = derivable_run A rows lower once distinct f.derivable in
        record { run = g.run; runs = g.runs; accepting = subst (λ z. T (final? A z)) (sym g.root) f.final; consistent = g.consistent },
    λ w.
        let g = consistent_left A rows lower once distinct (length rows - 1) (omega arith) w.run w.runs w.consistent in
        record { state = w.run []; memory = g.memory; final = w.accepting; derivable = g.derivable },
  )

  -- THE THEOREM: the test answers whether an accepting run exists.
  pub decides : (accepts? A rows ≡ true) ↔ Accepts A (tree_of rows)
  decides = (
    λ h. final_accepts.0 ((accepts_final A rows lower).0 ((T_true (accepts? A rows)).1 h)),
    λ w. (T_true (accepts? A rows)).0 ((accepts_final A rows lower).1 (final_accepts.1 w)),
  )
