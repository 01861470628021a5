-- What cannot end well may end early: the target's tags that the rule does not forget may be joined first. Assumes nothing.
use mathlib.Core.Path.{◌≡◌, refl, sym, ap, ◌∙◌, subst}
use mathlib.Core.List.{List, [], ◌∷◌}
use mathlib.Core.Bool.{Bool, true, false, cond}
use Prim.Native.Nat.{ℕ, zero, suc, ◌-◌, ◌<◌, ◌≤◌}
use native.Mathlib.Omega.{arith}
use native.Mathlib.Decide.{dec_lt}
use lib.Dec.{T, eqb}
use lib.ListN.{get_or, set}
use Rattle.model.specs.Lists.{only, tab}
use Rattle.model.specs.Automaton.{bit?}
use Rattle.model.specs.Annotation.{Memory, Annotation, places_agree, joined_place, agree?, joined, annotation}
use Rattle.model.proofs.Members.{T_and, and_T, T_true}
use Rattle.model.proofs.Tab.{tab_at, tab_past}
use Rattle.automaton.proofs.Parts.{tab_same}
use Rattle.membership.specs.Cells.{without}
use Rattle.judging.specs.Cells.{no_memory}
use Rattle.membership.specs.Entries.{Entry}
use Rattle.membership.specs.Search.{no_annotation, choosable?}
use Rattle.judging.specs.Search.{tags_in, arity_in, low_in, high_in, forget_asked, state_asked, row_asked, target_asked, rule_asked, chosen, found}
use Rattle.judging.proofs.Spans.{concat_map_same, none}
use Rattle.membership.proofs.Places.{joined_tab}
use Rattle.judging.proofs.Agreeing.{agree_all, same_test, agree_swap, agree_first, agree_second, agree_both, agree_self, joined_turn, dropped_there, dropped_here, joined_early}
use Rattle.membership.specs.declared.table.Plan.{Plan}
use Rattle.judging.specs.declared.search.Want.{Want}

-- a test that does not hold
pub not_T : (b : Bool) → (T b → ⊥) → b ≡ false
not_T true h = absurd (h tt)
not_T false h = refl

module _ (known : List Annotation) (plan : Plan) (asked : Want) (own : Memory) where
  abbrev memory_at : ℕ → Memory
  memory_at j = (get_or known j no_annotation).memory

  abbrev may? : ℕ → Memory → ℕ → Bool
  may? p m j = choosable? (state_asked asked p) m (get_or known j no_annotation)

  -- the target's tags that the rule does not forget
  abbrev early : Memory
  early = without (tags_in plan) (forget_asked asked) own

  abbrev place_of : ℕ → ℕ
  place_of left = arity_in plan - left

  -- nothing is found where each choice at the first place left that may be made leads to nothing
  found_nothing : (left : ℕ) (m : Memory) (c : List ℕ) → ((j : ℕ) → low_in plan (place_of (suc left)) ≤ j → j < high_in plan (place_of (suc left)) → T (may? (place_of (suc left)) m j) → found known plan asked own left (joined m (memory_at j)) (set c (place_of (suc left)) j) ≡ []) → found known plan asked own (suc left) m c ≡ []
  unfolding found
  found_nothing left m c h =
      none (chosen known p (state_asked asked p) (λ x d. found known plan asked own left x d) m c) (low_in plan p) (high_in plan p - low_in plan p)
      (λ j a b. one j (may? p m j) refl (h j a (omega arith)))
    where
      p : ℕ
      p = arity_in plan - suc left

      one : (j : ℕ) (b : Bool) → may? p m j ≡ b → (T (may? p m j) → found known plan asked own left (joined m (memory_at j)) (set c p j) ≡ []) → only b (found known plan asked own left (joined m (memory_at j)) (set c p j)) ≡ []
      one j true e g = g ((T_true (may? p m j)).1 e)
      one j false e g = refl

  -- a memory that clashes with the target's tags finds nothing
  pub clashing_early : (left : ℕ) (m : Memory) (c : List ℕ) → (T (agree? m early) → ⊥) → found known plan asked own left m c ≡ []
  unfolding found
  clashing_early zero m c h = ap (λ b. only b (last ∷ [])) (not_T (agree? (without (tags_in plan) (forget_asked asked) m) own) (λ t. h (dropped_there (tags_in plan) (forget_asked asked) m own t)))
    where
      last : Entry
      last = record { annotation = annotation (row_asked asked) (target_asked asked) (joined (without (tags_in plan) (forget_asked asked) m) own); rule = rule_asked asked; children = c }
  clashing_early (suc left) m c h = found_nothing left m c (λ j a b t. clashing_early left (joined m (memory_at j)) (set c (place_of (suc left)) j) (λ s. h (agree_first m (memory_at j) early s)))

  -- joined first, they make no difference
  pub early_same : (g : ℕ → ℕ) → own ≡ tab (tags_in plan) g → (left : ℕ) (m : Memory) (c : List ℕ) → T (agree? m early) → found known plan asked own left (joined early m) c ≡ found known plan asked own left m c
  unfolding found
  early_same g e zero m c t = cc (ends, joined_early (tags_in plan) (forget_asked asked) m own g e t)
    where
      left : Memory → Memory
      left x = without (tags_in plan) (forget_asked asked) x

      ends : agree? (left (joined early m)) own ≡ agree? (left m) own
      ends = same_test (agree? (left (joined early m)) own) (agree? (left m) own) (λ _. dropped_here (tags_in plan) (forget_asked asked) m own t)
          (λ _. dropped_here (tags_in plan) (forget_asked asked) (joined early m) own (agree_both early m early (agree_self early) t))
  early_same g e (suc left) m c t = concat_map_same (step (joined early m)) (step m) (low_in plan p) (high_in plan p - low_in plan p) (λ j _ _. one j (early_same g e left (joined m (memory_at j)) (set c p j)))
    where
      p : ℕ
      p = arity_in plan - suc left

      step : Memory → ℕ → List Entry
      step x = chosen known p (state_asked asked p) (λ x d. found known plan asked own left x d) x c

      one : (j : ℕ) → (T (agree? (joined m (memory_at j)) early) → found known plan asked own left (joined early (joined m (memory_at j))) (set c p j) ≡ found known plan asked own left (joined m (memory_at j)) (set c p j)) → step (joined early m) j ≡ step m j
      one j rest = go (may? p m j) (may? p (joined early m) j) refl refl
        where
          x : Memory
          x = memory_at j

          asks : Bool
          asks = eqb (get_or known j no_annotation).state (state_asked asked p)

          -- what may be chosen with the target's tags joined may be chosen without
          fewer : T (may? p (joined early m) j) → T (may? p m j)
          fewer s = let (a, b) = T_and asks (agree? (joined early m) x) s in and_T asks (agree? m x) a (agree_second early m x (agree_swap m early t) b)

          go : (b b' : Bool) → may? p m j ≡ b → may? p (joined early m) j ≡ b' → only b' (found known plan asked own left (joined (joined early m) x) (set c p j)) ≡ only b (found known plan asked own left (joined m x) (set c p j))
          go true true eb eb' =
              let s = (T_and asks (agree? m x) ((T_true (may? p m j)).1 eb)).1 in
              let s' = (T_and asks (agree? (joined early m) x) ((T_true (may? p (joined early m) j)).1 eb')).1 in
              ap (λ z. found known plan asked own left z (set c p j)) (joined_turn early m x)
              ∙ rest (agree_both m x early t (agree_swap early x (agree_first early m x s')))
          go true false eb eb' =
              let (a, s) = T_and asks (agree? m x) ((T_true (may? p m j)).1 eb) in
              sym (clashing_early left (joined m x) (set c p j) (λ r. subst T eb' (and_T asks (agree? (joined early m) x) a (agree_both early m x (agree_swap x early (agree_second m x early s r)) s))))
          go false true eb eb' = absurd (subst T eb (fewer ((T_true (may? p (joined early m) j)).1 eb')))
          go false false eb eb' = refl

  -- so the search may start from them
  pub from_early : (g : ℕ → ℕ) → own ≡ tab (tags_in plan) g → (left : ℕ) (c : List ℕ) → found known plan asked own left early c ≡ found known plan asked own left (no_memory (tags_in plan)) c
  from_early g e left c = ap (λ m. found known plan asked own left m c) (sym joined_nothing) ∙ early_same g e left (no_memory (tags_in plan)) c (agree_all (no_memory (tags_in plan)) early (λ k. subst (λ z. T (places_agree z (get_or early k 0))) (sym (nothing_at k)) tt))
    where
      nothing_at : (k : ℕ) → get_or (no_memory (tags_in plan)) k 0 ≡ 0
      nothing_at k = go (dec_lt k (tags_in plan))
        where
          go : Dec (k < tags_in plan) → get_or (no_memory (tags_in plan)) k 0 ≡ 0
          go (yes l) = tab_at 0 (tags_in plan) (λ k. 0) k l
          go (no n) = tab_past 0 (tags_in plan) (λ k. 0) k (omega (arith, n))

      kept : ℕ → ℕ
      kept k = cond (bit? (forget_asked asked) k) 0 (get_or own k 0)

      place : (x : ℕ) → joined_place x 0 ≡ x
      place zero = refl
      place (suc x) = refl

      joined_nothing : joined early (no_memory (tags_in plan)) ≡ early
      joined_nothing = joined_tab (tags_in plan) kept (λ k. 0) ∙ tab_same (tags_in plan) (λ k. joined_place (kept k) 0) kept (λ k _. place (kept k))
