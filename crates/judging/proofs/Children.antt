-- The child annotations chosen so far, in a lent array: what the places from the first one left on hold does not matter. Assumes nothing.
use mathlib.Core.Path.{◌≡◌, refl, sym, ap, ◌∙◌, subst}
use mathlib.Core.List.{List}
use Prim.Native.Nat.{ℕ, zero, suc, ◌-◌, ◌<◌, ◌≤◌}
use native.Mathlib.Omega.{arith}
use native.Mathlib.Decide.{ℕ_discrete, dec_lt}
use lib.ListN.{length, get_or, set, length-set, get_or-eq_default}
use lib.Seq.{get_or-set_same, get_or-set_other, ext_get_or}
use Rattle.model.specs.Lists.{only}
use Rattle.model.specs.Annotation.{Memory, Annotation, joined}
use Rattle.membership.specs.Entries.{Entry}
use Rattle.membership.specs.Search.{no_annotation, choosable?}
use Rattle.judging.specs.Search.{arity_in, low_in, high_in, state_asked, leaving, chosen, found, Alike}
use Rattle.judging.proofs.Spans.{concat_map_same}
use Rattle.membership.specs.declared.table.Plan.{Plan}
use Rattle.judging.specs.declared.search.Want.{Want}

pub alike_same : (p q : ℕ) (c : List ℕ) → Alike p q c c
alike_same p q c = record { as_long = refl; below = λ k l. refl; above = λ k l. refl }

pub alike_trans : (p q : ℕ) (c d e : List ℕ) → Alike p q c d → Alike p q d e → Alike p q c e
alike_trans p q c d e a b = record { as_long = b.as_long ∙ a.as_long; below = λ k l. b.below k l ∙ a.below k l; above = λ k l. b.above k l ∙ a.above k l }

-- after a choice at place p, and what the places after it left
pub alike_more : (p q x : ℕ) (c d e : List ℕ) → p < q → Alike p q c d → Alike (suc p) q (set d p x) e → Alike p q c e
alike_more p q x c d e l a b =
    record {
      as_long = b.as_long ∙ length-set d p x ∙ a.as_long;
      below = λ k m. b.below k (omega arith) ∙ get_or-set_other d p k x 0 (λ z. omega arith) ∙ a.below k m;
      above = λ k m. b.above k m ∙ get_or-set_other d p k x 0 (λ z. omega arith) ∙ a.above k m;
    }

-- the same choice in both
pub alike_set : (p q x : ℕ) (c d : List ℕ) → p < q → Alike p q c d → Alike (suc p) q (set c p x) (set d p x)
alike_set p q x c d l a =
    record {
      as_long = length-set d p x ∙ a.as_long ∙ sym (length-set c p x);
      below = λ k m. go k m (ℕ_discrete k p);
      above = λ k m. get_or-set_other d p k x 0 (λ z. omega arith) ∙ a.above k m ∙ sym (get_or-set_other c p k x 0 (λ z. omega arith));
    }
  where
    same : Dec (p < length c) → get_or (set d p x) p 0 ≡ get_or (set c p x) p 0
    same (yes m) = get_or-set_same d p x 0 (let z = a.as_long in omega arith) ∙ sym (get_or-set_same c p x 0 m)
    same (no m) = get_or-eq_default (set d p x) 0 (let z = a.as_long in let y = length-set d p x in omega (arith, m)) ∙ sym (get_or-eq_default (set c p x) 0 (let y = length-set c p x in omega (arith, m)))

    go : (k : ℕ) → k < suc p → Dec (k ≡ p) → get_or (set d p x) k 0 ≡ get_or (set c p x) k 0
    go k m (yes e) = rw e (same (dec_lt p (length c)))
    go k m (no e) = get_or-set_other d p k x 0 e ∙ a.below k (omega (arith, e)) ∙ sym (get_or-set_other c p k x 0 e)

alike_all : (q : ℕ) (c d : List ℕ) → Alike q q c d → d ≡ c
alike_all q c d a = ext_get_or 0 d c a.as_long (λ k l. go k (dec_lt k q))
  where
    go : (k : ℕ) → Dec (k < q) → get_or d k 0 ≡ get_or c k 0
    go k (yes l) = a.below k l
    go k (no l) = a.above k (omega (arith, l))

module _ (known : List Annotation) (plan : Plan) (asked : Want) (own : Memory) where
  pub found_alike : (left : ℕ) (m : Memory) (c d : List ℕ) → left ≤ arity_in plan → Alike (arity_in plan - left) (arity_in plan) c d → found known plan asked own left m d ≡ found known plan asked own left m c
  unfolding found
  found_alike zero m c d l a = ap (leaving plan asked own m) (alike_all (arity_in plan) c d (subst (λ z. Alike z (arity_in plan) c d) (let e : arity_in plan - 0 ≡ arity_in plan = omega arith in e) a))
  found_alike (suc left) m c d l a = concat_map_same (step d) (step c) (low_in plan p) (high_in plan p - low_in plan p) (λ j _ _. one j (λ x. found_alike left x (set c p j) (set d p j)))
    where
      p : ℕ
      p = arity_in plan - suc left

      step : List ℕ → ℕ → List Entry
      step c = chosen known p (state_asked asked p) (λ x c. found known plan asked own left x c) m c

      one : (j : ℕ) → ((x : Memory) → left ≤ arity_in plan → Alike (arity_in plan - left) (arity_in plan) (set c p j) (set d p j) → found known plan asked own left x (set d p j) ≡ found known plan asked own left x (set c p j)) → step d j ≡ step c j
      one j rest =
          let e : suc p ≡ arity_in plan - left = omega arith in
          ap (only (choosable? (state_asked asked p) m (get_or known j no_annotation)))
          (rest (joined m (get_or known j no_annotation).memory) (omega arith) (subst (λ z. Alike z (arity_in plan) (set c p j) (set d p j)) e (alike_set p (arity_in plan) j c d (omega arith) a)))
