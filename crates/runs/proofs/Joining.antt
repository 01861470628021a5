-- Places of one tag joined, up to the first unused step place. Assumes nothing.
use Rattle.std.specs.Prelude.{Option, Some, None}
use Rattle.std.proofs.lemmas.Option.{cond_some}
use Rattle.model.specs.Automaton.{bit?}
use mathlib.Core.Path.{◌≡◌, refl, sym, ap, ◌∙◌, subst}
use mathlib.Core.List.{List, [], ◌∷◌, map}
use mathlib.Core.Bool.{Bool, true, false, ◌&&◌, cond}
use Prim.Native.Nat.{ℕ, suc, ◌+◌, ◌<◌, ◌≤◌}
use native.Mathlib.Numerals.{add-one}
use borrow.Author.Rules.{rules}
use borrow.Author.Tests.{eq-eqb, ne_eqb}
use lib.ListN.{get_or, drop, drop_of_length-le}
use lib.Seq.{drop-cons}
use Rattle.model.specs.Limits.{max_children, unused}
use Rattle.model.specs.Annotation.{places_agree, joined_place}
use Rattle.model.specs.ByTag.{all_joined, all_agree?}
use Rattle.document.specs.Rows.{used}
use Rattle.runs.specs.declared.memories.Place.{Place}
use Rattle.runs.specs.Steps.{places_in, place_in}
use Rattle.runs.specs.Memories.{both, AllJoined, Left}

both_some : (x y : ℕ) (p : Place) → Some p ≡ both x y → (places_agree x y ≡ true) × (joined_place x y ≡ p.0)
both_some x y p e = let h = cond_some (places_agree x y) (record { 0 = joined_place x y }) p (sym e) in (h.0, ap (λ (p : Place). p.0) h.1)

pub cond_none : {A : Type 0} (b : Bool) (x : A) → None ≡ cond b (Some x) None → b ≡ false
cond_none true x e = cc
cond_none false x e = refl

-- what a branch on a tag of a mask answers
pub with_tag : (a b : Bool) (v x y : ℕ) → b ≡ a → b ≡ true → v ≡ x → v ≡ cond a x y
with_tag a b v x y e t q = q ∙ ap (λ (c : Bool). cond c x y) (sym t ∙ e)

pub without_tag : (a b : Bool) (v x y : ℕ) → b ≡ a → b ≡ false → v ≡ y → v ≡ cond a x y
without_tag a b v x y e t q = q ∙ ap (λ (c : Bool). cond c x y) (sym t ∙ e)

pub ruleset places = (with_tag, without_tag, rules)

-- at the head of the loop over the step places of step i: j, with the places from k on
module _ (run cells : List ℕ) (i : ℕ) where
  abbrev rest : ℕ → List ℕ
  rest k = map (λ c. get_or cells c 0) (used (drop k (places_in run i)))

  pub record Joining (j : Place) (k : ℕ) : Type 0 where
    pub clear : all_agree? j.0 (rest k) ≡ all_agree? 0 (rest 0)
    pub place : all_joined j.0 (rest k) ≡ all_joined 0 (rest 0)

  pub joining_none : Joining (record { 0 = 0 }) 0
  joining_none = record { clear = refl; place = refl }

  module _ (j : Place) (k : ℕ) (h : Joining j k) where
    joined_when : rest k ≡ [] → AllJoined (rest 0) (Some j)
    joined_when e =
        let clear : true ≡ all_agree? 0 (rest 0) = ap (all_agree? j.0) (sym e) ∙ h.clear in
        let place : j.0 ≡ all_joined 0 (rest 0) = ap (all_joined j.0) (sym e) ∙ h.place in
        λ i. cond (clear i) (Some (record { 0 = place i })) None

    pub joined_all_lem : max_children ≤ k → AllJoined (rest 0) (Some j)
    joined_all_lem l = joined_when (ap (λ (ps : List ℕ). map (λ c. get_or cells c 0) (used ps)) (drop_of_length-le (places_in run i) l))

    -- place k holds x
    module _ (x : ℕ) (l : k < max_children) (e : x ≡ place_in run i k) where
      first : rest k ≡ map (λ c. get_or cells c 0) (used (x ∷ drop (suc k) (places_in run i)))
      unfolding place_in
      first = ap (λ (ps : List ℕ). map (λ c. get_or cells c 0) (used ps)) (drop-cons (places_in run i) k unused l ∙ ap (λ (y : ℕ). y ∷ drop (suc k) (places_in run i)) (sym e))

      pub joined_stop : x ≡ unused → AllJoined (rest 0) (Some j)
      joined_stop u = joined_when (first ∙ simp (eq-eqb x unused u))

      module _ (y : ℕ) (n : x ≡ unused → ⊥) (f : y ≡ get_or cells x 0) where
        more : rest k ≡ y ∷ rest (k + 1)
        more = first ∙ simp (ne_eqb x unused n, add-one, ← f)

        pub joining_more : (j' : Place) → Some j' ≡ both j.0 y → Joining j' (k + 1)
        joining_more j' w =
            let (agree, place) = both_some j.0 y j' w in
            record {
              clear = ap (λ (p : ℕ). all_agree? p (rest (k + 1))) (sym place) ∙ ap (λ (b : Bool). b && all_agree? (joined_place j.0 y) (rest (k + 1))) (sym agree) ∙ ap (all_agree? j.0) (sym more) ∙ h.clear;
              place = ap (λ (p : ℕ). all_joined p (rest (k + 1))) (sym place) ∙ ap (all_joined j.0) (sym more) ∙ h.place;
            }

        pub joined_clash : None ≡ both j.0 y → AllJoined (rest 0) None
        joined_clash w =
            let clash : false ≡ all_agree? 0 (rest 0) =
            ap (λ (b : Bool). b && all_agree? (joined_place j.0 y) (rest (k + 1))) (sym (cond_none (places_agree j.0 y) (record { 0 = joined_place j.0 y }) w)) ∙ ap (all_agree? j.0) (sym more) ∙ h.clear in
            λ i. cond (clash i) (Some (record { 0 = all_joined 0 (rest 0) })) None

pub ruleset joining = (joining_none, joined_all_lem, joined_stop, joining_more, joined_clash, rules)

-- what is left of the children's places x joined, which could be where a says so
pub left_is : (a : Bool) (x : ℕ) (j l : Option Place) (f m r k : ℕ) → j ≡ cond a (Some (record { 0 = x })) None → Left j f m r k l
    → l ≡ cond (a && places_agree (cond (bit? f k) 0 x) (cond (bit? m k) (suc r) 0)) (Some (record { 0 = joined_place (cond (bit? f k) 0 x) (cond (bit? m k) (suc r) 0) })) None
left_is true x j l f m r k e h = subst (λ (j : Option Place). Left j f m r k l) e h
left_is false x j l f m r k e h = subst (λ (j : Option Place). Left j f m r k l) e h
