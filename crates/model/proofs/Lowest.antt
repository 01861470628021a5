-- Levels of the witness: those of the round that marks it, no more than the states, and no accepted tree has fewer; it is accepted, and there is none exactly where no tree is. Assumes nothing.
use mathlib.Core.Path.{◌≡◌, refl, sym, ap, ◌∙◌, subst}
use mathlib.Core.Logic.{⊎_elim, ◌↔◌}
use mathlib.Core.Option.{Option, none, some, some-injective}
use Prim.Native.Nat.{ℕ, zero, suc, ◌≤◌}
use native.Mathlib.Omega.{arith}
use native.Mathlib.Decide.{dec_le}
use lib.Dec.{T}
use lib.ListN.{length, get_or}
use Rattle.model.specs.Tree.{Tree, levels}
use Rattle.model.specs.Automaton.{Automaton, Wellformed, final?}
use Rattle.model.specs.Run.{Accepts}
use Rattle.model.specs.Witness.{rounds, witness, Apart}
use Rattle.model.proofs.Levels.{highest_least}
use Rattle.model.proofs.Witness.{By, none_marked}
use Rattle.model.proofs.Rounds.{each_tree, marked_by, has_run}
use Rattle.model.proofs.FirstRound.{none_final, lowest_final, FirstRound, first_round}
use Rattle.model.proofs.Dead.{some?, not_none, run_marked, final_marked, dead}

-- no more levels than rounds
pub few_levels : (A : Automaton) (n q : ℕ) (t : Tree) → get_or (rounds A n) q none ≡ some t → levels t ≤ n
unfolding levels
few_levels A zero q t e = absurd (none_marked A q t e)
few_levels A (suc n) q t e =
    ⊎_elim (λ m. let l = few_levels A n q t m in omega arith) (by (few_levels A n)) (marked_by A (rounds A n) q t e)
  where
    by : ((q : ℕ) (t : Tree) → get_or (rounds A n) q none ≡ some t → levels t ≤ n) → By A (rounds A n) q A.rules t → levels t ≤ suc n
    by h b =
        let l = highest_least b.under_it n (each_tree (λ u. levels u ≤ n) (rounds A n) h b.rule.children b.under_it b.marked) in
        subst (λ z. levels z ≤ suc n) b.is (omega arith)

-- THE WITNESS IS ACCEPTED: where two positions carry a tag, their states are the same, and so are the trees marked for them, whether the tag is forgotten between them or not
pub live_accepted : (A : Automaton) → Apart A → (w : Tree) → witness A ≡ some w → Accepts A w
live_accepted A d w e =
    let (n, h) = first_round A w e in
    let v = lowest_final A (rounds A n) w h.found in
    let (ρ, g) = has_run A n v.state w v.marked in
    record {
      run = ρ;
      runs = g.runs;
      accepting = subst (λ z. T (final? A z)) (sym g.root) v.final;
      consistent = λ k l p p' u u' e e' c c' g'. some-injective u u' (sym (g.all p u e) ∙ ap (λ z. get_or (rounds A n) z none) (d k l (ρ p) (ρ p') c c') ∙ g.all p' u' e');
    }

module _ (A : Automaton) (wellformed : Wellformed A) where
  -- THE LEVELS OF A MARKED TREE: a state first marked in round n + 1 has a tree of n + 1 levels
  pub levels_marked : (n q : ℕ) (t : Tree) → get_or (rounds A n) q none ≡ none → get_or (rounds A (suc n)) q none ≡ some t → levels t ≡ suc n
  levels_marked n q t e m = go (dec_le (levels t) n)
    where
      go : Dec (levels t ≤ n) → levels t ≡ suc n
      go (yes l) =
          let (ρ, g) = has_run A (suc n) q t m in
          absurd (not_none (get_or (rounds A n) q none) e (subst (λ z. some? (get_or (rounds A n) z none)) g.root (run_marked A wellformed t n l ρ g.runs)))
      go (no l) = let h = few_levels A (suc n) q t m in omega arith

  -- the levels of the witness are the first round after which a final state is marked
  pub levels_first : (w : Tree) (k : ℕ) → FirstRound A w k → levels w ≡ k
  levels_first w zero h = let v = lowest_final A (rounds A 0) w h.found in absurd (none_marked A v.state w v.marked)
  levels_first w (suc n) h =
      let v = lowest_final A (rounds A (suc n)) w h.found in
      levels_marked n v.state w (none_final A (rounds A n) (h.before n (omega arith)) v.state v.final) v.marked

  -- THE WITNESS IS LOWEST
  pub lowest : (w t : Tree) → witness A ≡ some w → Accepts A t → levels w ≤ levels t
  lowest w t e a = let (k, h) = first_round A w e in go k h (dec_le k (levels t))
    where
      go : (k : ℕ) → FirstRound A w k → Dec (k ≤ levels t) → levels w ≤ levels t
      go k h (yes l) = omega (arith, levels_first w k h)
      go k h (no l) = absurd (final_marked A wellformed t a (h.before (levels t) (omega arith)))

  pub witness_levels : (w : Tree) → witness A ≡ some w → levels w ≤ length A.states
  witness_levels w e = let (k, h) = first_round A w e in omega (arith, levels_first w k h, h.within)

  -- DEAD EXACTLY WHERE NO TREE IS ACCEPTED
  pub dead_exactly : Apart A → (witness A ≡ none) ↔ ((t : Tree) → Accepts A t → ⊥)
  dead_exactly d = (dead A wellformed, λ h. go h (witness A) refl)
    where
      go : ((t : Tree) → Accepts A t → ⊥) → (o : Option Tree) → witness A ≡ o → o ≡ none
      go h none e = refl
      go h (some w) e = absurd (h w (live_accepted A d w e))
