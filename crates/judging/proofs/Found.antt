-- The search in windows finds what a choice among all known annotations finds: a child's window holds exactly the annotations of its row. Assumes nothing.
use mathlib.Core.Path.{◌≡◌, refl, sym, ap, ◌∙◌}
use mathlib.Core.List.{List, [], ◌∷◌, map}
use mathlib.Core.Bool.{Bool, true, false, ◌&&◌}
use Prim.Native.Nat.{ℕ, zero, suc, ◌+◌, ◌-◌, ◌<◌}
use native.Mathlib.Omega.{arith}
use borrow.Author.Tests.{eq-eqb, ne_eqb}
use lib.ListN.{length, get_or, drop, set, drop_of_length-le}
use lib.Seq.{drop-cons}
use Rattle.model.specs.Lists.{concat_map, only}
use Rattle.model.specs.Automaton.{Automaton}
use Rattle.model.specs.Written.{rule_at}
use Rattle.model.specs.Annotation.{Memory, Annotation, annotation, agree?, joined, own_memory, kept}
use Rattle.membership.proofs.Found.{Window}
use Rattle.membership.specs.Cells.{without}
use Rattle.membership.specs.Entries.{Entry}
use Rattle.membership.specs.Search.{span, no_annotation, choosable?}
use Rattle.judging.specs.Search.{tags_in, arity_in, low_in, high_in, row_asked, rule_asked, target_asked, forget_asked, state_asked, finished, leaving, chosen, found}
use Rattle.membership.specs.Listing.{last_step, taken, made}
use Rattle.judging.proofs.Spans.{concat_map_same, span_window}
use Rattle.membership.specs.declared.table.Plan.{Plan}
use Rattle.judging.specs.declared.search.Want.{Want}

-- what a plan and what is asked say of rule r on row i, with children on the rows cs in the states qs
pub record Asked (A : Automaton) (known : List Annotation) (plan : Plan) (asked : Want) (own : Memory) (i r : ℕ) (cs qs : List ℕ) : Type 0 where
  pub row : row_asked asked ≡ i
  pub target : target_asked asked ≡ (rule_at A r).target
  pub rule : rule_asked asked ≡ r
  pub forget : forget_asked asked ≡ (rule_at A r).forget
  pub tags : tags_in plan ≡ A.tags
  pub own_is : own ≡ own_memory A (rule_at A r).target i
  pub rows_are : length cs ≡ arity_in plan
  pub states_are : length qs ≡ arity_in plan
  pub states : (p : ℕ) → p < arity_in plan → state_asked asked p ≡ get_or qs p 0
  pub windows : (p : ℕ) → p < arity_in plan → Window known (get_or cs p 0) (low_in plan p) (high_in plan p)

module _ (A : Automaton) (known : List Annotation) (plan : Plan) (asked : Want) (own : Memory) (i r : ℕ) (cs qs : List ℕ) (asks : Asked A known plan asked own i r cs qs) where
  last_is : (m : Memory) (children : List ℕ) → leaving plan asked own m children ≡ last_step A i r m children
  last_is m children =
      ap (λ x. finished asked own x children) (λ x. without (asks.tags x) (asks.forget x) m)
      ∙ go (row_asked asked) (target_asked asked) (rule_asked asked) own asks.row asks.target asks.rule asks.own_is
      ∙ same (agree? left (own_memory A q i))
    where
      q : ℕ
      q = (rule_at A r).target

      left : Memory
      left = kept A (rule_at A r) m

      entry_of : ℕ → ℕ → ℕ → Memory → Entry
      entry_of i q r y = record { annotation = annotation i q y; rule = r; children = children }

      go : (i' q' r' : ℕ) (o : Memory) → i' ≡ i → q' ≡ q → r' ≡ r → o ≡ own_memory A q i → only (agree? left o) (entry_of i' q' r' (joined left o) ∷ []) ≡ only (agree? left (own_memory A q i)) (entry_of i q r (joined left (own_memory A q i)) ∷ [])
      go i' q' r' o ei eq er eo = cc

      same : (b : Bool) → only b (entry_of i q r (joined left (own_memory A q i)) ∷ []) ≡ map (entry_of i q r) (only b (joined left (own_memory A q i) ∷ []))
      same true = refl
      same false = refl

  pub found_made : (left p : ℕ) → p + left ≡ arity_in plan → (m : Memory) (children : List ℕ) → found known plan asked own left m children ≡ made known (last_step A i r) p m children (drop p cs) (drop p qs)
  unfolding found made
  found_made zero p e m children =
      last_is m children
      ∙ (λ x. made known (last_step A i r) p m children (sym (drop_of_length-le cs {i = p} (omega (arith, asks.rows_are))) x) (sym (drop_of_length-le qs {i = p} (omega (arith, asks.states_are))) x))
  found_made (suc left) p e m children =
      let place : arity_in plan - suc left ≡ p = omega arith in
      let lp : p < arity_in plan = omega arith in
      let w = asks.windows p lp in
      ap (λ k. concat_map (chosen known k (state_asked asked k) (λ x c. found known plan asked own left x c) m children) (span (low_in plan k) (high_in plan k - low_in plan k))) place
      ∙ concat_map_same (chosen known p (state_asked asked p) (λ x c. found known plan asked own left x c) m children) (taken known p (get_or cs p 0) (get_or qs p 0) next m children) (low_in plan p) (high_in plan p - low_in plan p)
      (λ j a b. let o = w.order in inside lp (λ x d. found_made left (suc p) (omega arith) x d) j (w.inside j a (omega arith)))
      ∙ sym (span_window (taken known p (get_or cs p 0) (get_or qs p 0) next m children) (low_in plan p) (high_in plan p) (length known) w.order w.top
      (λ j l. let t = w.top in let o = w.order in outside j (λ z. let (x, y) = w.all j (omega arith) z in omega arith))
      (λ j l l'. outside j (λ z. let (x, y) = w.all j l' z in omega arith)))
      ∙ (λ x. made known (last_step A i r) p m children (sym (drop-cons cs p 0 (omega (arith, asks.rows_are))) x) (sym (drop-cons qs p 0 (omega (arith, asks.states_are))) x))
    where
      next : Memory → List ℕ → List Entry
      next x d = made known (last_step A i r) (suc p) x d (drop (suc p) cs) (drop (suc p) qs)

      outside : (j : ℕ) → ((get_or known j no_annotation).row ≡ get_or cs p 0 → ⊥) → taken known p (get_or cs p 0) (get_or qs p 0) next m children j ≡ []
      outside j h = ap (λ b. only (b && choosable? (get_or qs p 0) m (get_or known j no_annotation)) (next (joined m (get_or known j no_annotation).memory) (set children p j))) (ne_eqb (get_or known j no_annotation).row (get_or cs p 0) h)

      inside : p < arity_in plan → ((x : Memory) (d : List ℕ) → found known plan asked own left x d ≡ next x d) → (j : ℕ) → (get_or known j no_annotation).row ≡ get_or cs p 0 → chosen known p (state_asked asked p) (λ x c. found known plan asked own left x c) m children j ≡ taken known p (get_or cs p 0) (get_or qs p 0) next m children j
      inside lp same j h =
          ap (λ s. only (choosable? s m (get_or known j no_annotation)) (found known plan asked own left (joined m (get_or known j no_annotation).memory) (set children p j))) (asks.states p lp)
          ∙ ap (only (choosable? (get_or qs p 0) m (get_or known j no_annotation))) (same (joined m (get_or known j no_annotation).memory) (set children p j))
          ∙ sym (ap (λ b. only (b && choosable? (get_or qs p 0) m (get_or known j no_annotation)) (next (joined m (get_or known j no_annotation).memory) (set children p j))) (eq-eqb (get_or known j no_annotation).row (get_or cs p 0) h))
