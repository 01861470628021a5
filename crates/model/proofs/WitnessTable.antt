-- The witness's table is sound and has no more rows than the automaton has states. Assumes nothing.
use mathlib.Core.Path.{◌≡◌, refl, sym, ap, ◌∙◌, subst}
use mathlib.Core.Logic.{⊎_elim}
use mathlib.Core.Option.{Option, none, some}
use mathlib.Core.List.Memᴰ
use mathlib.Core.List.{List}
use Prim.Native.Nat.{ℕ, zero, suc, ◌≤◌}
use native.Mathlib.Omega.{arith}
use lib.ListN.{length, get_or}
use Rattle.model.specs.Lists.{tab}
use Rattle.model.specs.Tree.{Tree, at}
use Rattle.model.specs.Automaton.{Automaton, Wellformed}
use Rattle.model.specs.Sound.{Sound}
use Rattle.model.specs.Table.{SoundTable}
use Rattle.model.specs.Fit.{FitNode}
use Rattle.model.specs.Build.{rows_of}
use Rattle.model.specs.Witness.{rounds, witness}
use Rattle.model.proofs.Tab.{length_tab, tab_in}
use Rattle.model.proofs.Rows.{trees_forest}
use Rattle.model.proofs.Runs.{leaf}
use Rattle.model.proofs.Witness.{By, kids, none_marked}
use Rattle.model.proofs.Rounds.{in_states, has_run, marked_by}
use Rattle.model.proofs.FirstRound.{lowest_final, first_round}
use Rattle.model.proofs.Lowest.{witness_levels}
use Rattle.model.proofs.Build.{table}
use Rattle.model.proofs.BuiltTable.{at_fit, sound_table, few_rows}

or_leaf : Option Tree → Tree
or_leaf none = leaf
or_leaf (some t) = t

module _ (A : Automaton) where
  -- the root of a marked tree fits: it is bare and a rule's symbol stands there
  pub marked_fit : Wellformed A → (n q : ℕ) (t : Tree) → get_or (rounds A n) q none ≡ some t → FitNode A t
  marked_fit wf zero q t e = absurd (none_marked A q t e)
  marked_fit wf (suc n) q t e = ⊎_elim (marked_fit wf n q t) by (marked_by A (rounds A n) q t e)
    where
      by : By A (rounds A n) q A.rules t → FitNode A t
      by b =
          subst (FitNode A) b.is
          (record {
            known = wf.symbols b.rule b.listed;
            as_many = ap length (trees_forest b.under_it) ∙ sym (kids A (rounds A n) (has_run A n) b.rule.children b.under_it b.marked).0 ∙ wf.as_many b.rule b.listed;
            scalar = tt;
            bare = λ l. (refl, refl);
          })

  -- each subtree of the witness is the tree of a marked state
  pub record InRound (w : Tree) : Type 0 where
    pub round : ℕ
    pub state : List ℕ → ℕ
    pub marked : (p : List ℕ) (u : Tree) → at w p ≡ some u → get_or (rounds A round) (state p) none ≡ some u

  pub in_round : (w : Tree) → witness A ≡ some w → InRound w
  in_round w e =
      let (k, h) = first_round A w e in
      let v = lowest_final A (rounds A k) w h.found in
      let (ρ, g) = has_run A k v.state w v.marked in
      record { round = k; state = ρ; marked = g.all }

  -- THE WITNESS HAS NO MORE ROWS THAN THERE ARE STATES
  pub witness_rows : (w : Tree) → witness A ≡ some w → length (rows_of w) ≤ length A.states
  unfolding or_leaf
  witness_rows w e =
      let T = table w in
      let r = in_round w e in
      let f : ℕ → Tree = λ q. or_leaf (get_or (rounds A r.round) q none) in
      let l = few_rows (rows_of w) T.lower T.distinct w T.subtrees (tab (length A.states) f)
      (λ p u q.
      let m = r.marked p u q in
      Memᴰ.cast (sym (ap or_leaf m)) (tab_in (length A.states) f (r.state p) (in_states A r.round (r.state p) u m))) in
      omega (arith, length_tab (length A.states) f)

  -- THE WITNESS'S TABLE IS SOUND
  pub witness_table : Sound A → (w : Tree) → witness A ≡ some w → SoundTable A (rows_of w)
  witness_table s w e =
      let r = in_round w e in
      sound_table A w (at_fit A w (λ p u q. marked_fit s.wellformed r.round (r.state p) u (r.marked p u q)))
      (let l = witness_levels A s.wellformed w e in omega (arith, s.few_states))
      (let l = witness_rows w e in omega (arith, s.few_states))
