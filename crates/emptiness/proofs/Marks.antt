-- Laws for the functions that mark: what each return and each loop of theirs shows. Assumes nothing.
use mathlib.Core.Path.{◌≡◌, refl, sym, ap, ◌∙◌, subst}
use mathlib.Core.List.{List, map}
use mathlib.Core.Bool.{Bool, true, false, ◌&&◌, ◌||◌}
use Prim.Native.Nat.{ℕ, zero, suc, ◌+◌, ◌<◌, ◌≤◌}
use native.Mathlib.Numerals.{add-one}
use native.Mathlib.Decide.{ℕ_discrete, dec_lt}
use native.Mathlib.Omega.{arith}
use borrow.Author.Rules.{rules}
use borrow.Author.Tests.{ltb-true, ltb-false}
use lib.Dec.{T}
use lib.ListN.{length, get_or, replicate, get_or-eq_default, get_or-map}
use Rattle.model.specs.Limits.{max_children, max_states}
use Rattle.model.specs.Automaton.{State, Automaton, no_state, arity_of, final?}
use Rattle.model.specs.Order.{place}
use Rattle.model.specs.Written.{rule_at, no_rule}
use Rattle.model.proofs.Members.{T_true, T_and}
use Rattle.model.specs.Lists.{all_below}
use Rattle.model.proofs.Rows.{in_get_d}
use Rattle.model.proofs.Tab.{tab_at}
use Rattle.automaton.specs.Stored.{decode}
use Rattle.automaton.specs.Check.{check_of}
use Rattle.automaton.specs.Answer.{IsRule}
use Rattle.automaton.specs.declared.State as number
use Rattle.automaton.specs.declared.StoredRule.{StoredRule}
use Rattle.automaton.proofs.Sound.{sound_decode}
use Rattle.emptiness.specs.Places.{named?}
use Rattle.std.specs.Prelude.{None, Some}
use Rattle.std.specs.Prelude.{Option as Perhaps}
use Rattle.emptiness.specs.Marking.{marked?, child_marked?, ready?, this?, early?, propagated?, Tried, Tries, Propagated, lower_than?, LowestAdded}
use Rattle.emptiness.proofs.Tries.{tried_none}
use Rattle.emptiness.proofs.Links.{zeros_long}

pub past : (l : List ℕ) (d a i : ℕ) → a ≡ i → length l ≤ a → d ≡ get_or l i d
past l d a i e h = go l a h ∙ ap (λ k. get_or l k d) e
  where
    go : (l : List ℕ) (a : ℕ) → length l ≤ a → d ≡ get_or l a d
    go l a h = sym (get_or-eq_default l d h)

module _ (s : List ℕ) (sound : check_of s ≡ 0) where
  pub width_is : (i f x : ℕ) → i < length (decode s).rules → f ≡ (rule_at (decode s) i).symbol → x ≡ arity_of (decode s) f → x ≡ length (rule_at (decode s) i).children
  width_is i f x l ef ex = ex ∙ ap (arity_of (decode s)) ef ∙ sym ((sound_decode s sound).wellformed.as_many (rule_at (decode s) i) (in_get_d no_rule (decode s).rules i l))

  pub target_in : (i t at : ℕ) → i < length (decode s).rules → t ≡ (rule_at (decode s) i).target → at ≡ t → at < 256
  target_in i t at l et ea =
      let h = (sound_decode s sound).wellformed.targets (rule_at (decode s) i) (in_get_d no_rule (decode s).rules i l) in
      omega (arith, (sound_decode s sound).few_states)

pub rule_small : (s : List ℕ) (i : ℕ) → check_of s ≡ 0 → i < length (decode s).rules → i + 1 < 65536
rule_small s i c l = omega (arith, (sound_decode s c).few_rules)

below_same : (n : ℕ) (p q : ℕ → Bool) → ((k : ℕ) → k < n → p k ≡ q k) → all_below n p ≡ all_below n q
unfolding all_below
below_same zero p q h = refl
below_same (suc n) p q h = ap (λ b. b && p n) (below_same n p q (λ k l. h k (omega arith))) ∙ ap (λ b. all_below n q && b) (h n (omega arith))

-- the state in place k of a rule's
pub marked_at : (marks : List ℕ) (ps : List number.State) (k at : ℕ) (b : Bool) → b ≡ marked? marks (get_or ps at (record { 0 = 0 })).0 → at ≡ k → b ≡ marked? marks (get_or (map (λ q. q.0) ps) k 0)
marked_at marks ps k at b e ea = e ∙ ap (marked? marks) (sym (get_or-map (λ (q : number.State). q.0) ps at (record { 0 = 0 })) ∙ ap (λ j. get_or (map (λ q. q.0) ps) j 0) ea)

-- the children of rule i, read once, as the closure asks them
module _ (s : List ℕ) (sound : check_of s ≡ 0) (marks : List ℕ) (i : ℕ) (l : i < length (decode s).rules) (x : StoredRule) (H : IsRule x (rule_at (decode s) i)) where
  abbrev pub read_marked : ℕ → Bool
  read_marked k = marked? marks (get_or (map (λ q. q.0) x.places) k 0)

  child_is : (k : ℕ) → k < length (rule_at (decode s) i).children → read_marked k ≡ child_marked? marks (rule_at (decode s) i) k
  unfolding child_marked?
  child_is k lk =
      let a = (sound_decode s sound).wellformed.as_many (rule_at (decode s) i) (in_get_d no_rule (decode s).rules i l) in
      let h : k < max_children = omega (arith, (sound_decode s sound).few_children (rule_at (decode s) i).symbol) in
      ap (λ ps. marked? marks (get_or ps k 0)) H.places ∙ ap (marked? marks) (tab_at 0 max_children (place (rule_at (decode s) i)) k h)

  pub ready_all : (b : Bool) → b ≡ all_below (length (rule_at (decode s) i).children) read_marked → b ≡ ready? marks (rule_at (decode s) i)
  ready_all b e = e ∙ below_same (length (rule_at (decode s) i).children) read_marked (child_marked? marks (rule_at (decode s) i)) child_is

-- the rules tried before the loop's index, in the first round and in a later one
module _ (s : List ℕ) where
  pub round_start : Tried (decode s) (replicate max_states 0) (early? 0) (replicate max_states 0) (replicate max_states 0) 0
  unfolding early?
  round_start = tried_none (decode s) (replicate max_states 0) (early? 0) (replicate max_states 0) (λ j h. h) (zeros_long max_states) (zeros_long max_states)

  pub round_more : (marks next added next' added' : List ℕ) (n n' i : ℕ) → Tried (decode s) marks (early? i) next added n → Tries (decode s) marks (this? i) next added n next' added' n' → Tried (decode s) marks (early? (i + 1)) next' added' n'
  unfolding early?
  round_more marks next added next' added' n n' i t T' = rw add-one (T'.gives (early? i) t)

  pub round_all : (marks next added : List ℕ) (n i r : ℕ) → Tried (decode s) marks (early? i) next added n → i ≤ r → r ≤ i → r ≡ length (decode s).rules → Tried (decode s) marks (early? (length (decode s).rules)) next added n
  round_all marks next added n i r t l g e = let q : i ≡ length (decode s).rules = omega arith in subst (λ z. Tried (decode s) marks (early? z) next added n) q t

  module _ (marks states : List ℕ) where
    pub propagated_none : Propagated (decode s) marks states 0 marks (replicate max_states 0) 0
    unfolding propagated?
    propagated_none = record { gives = λ l h. tried_none (decode s) marks (propagated? (decode s) states 0) (replicate max_states 0) (λ j d. d) l (zeros_long max_states) }

    pub propagated_more : (next added next' added' : List ℕ) (m m' x q : ℕ) → Propagated (decode s) marks states x next added m → q ≡ get_or states x 0 → (q < max_states → Tries (decode s) marks (named? (decode s) q 0) next added m next' added' m') → Propagated (decode s) marks states (x + 1) next' added' m'
    unfolding propagated?
    propagated_more next added next' added' m m' x q W e T' = rw add-one (record {
      gives = λ l h.
          subst (λ z. Tried (decode s) marks (λ j. propagated? (decode s) states x j || named? (decode s) z 0 j) next' added' m') e
          ((T' (let g = h x (omega arith) in omega arith)).gives (propagated? (decode s) states x) (W.gives l (λ y ly. h y (omega arith))));
    })

    pub propagated_all : (next added : List ℕ) (m x n : ℕ) → Propagated (decode s) marks states x next added m → x ≤ n → n ≤ x → Propagated (decode s) marks states n next added m
    propagated_all next added m x n W l g = let q : x ≡ n = omega arith in subst (λ z. Propagated (decode s) marks states z next added m) q W

final_in : (A : Automaton) (q : ℕ) → final? A q ≡ true → q < length A.states
final_in A q e = go (dec_lt q (length A.states))
  where
    go : Dec (q < length A.states) → q < length A.states
    go (yes l) = l
    go (no l) = let z : ⊥ = subst T (sym e ∙ ap (λ (x : State). x.final) (get_or-eq_default A.states no_state (omega arith))) tt in absurd z

-- the lowest final state among the first x
pub low_none : (A : Automaton) (added : List ℕ) → LowestAdded A added 0 None
low_none A added = record {
  nowhere = λ e x l. absurd (omega arith);
  here = λ t e. cc;
  lowest = λ t e x l. absurd (omega arith);
}

module _ (s added : List ℕ) (x : ℕ) (best : Perhaps number.State) (q : number.State) (L : LowestAdded (decode s) added x best) (eq : q.0 ≡ get_or added x 0) (b c : Bool) (eb : b ≡ final? (decode s) q.0) (ec : c ≡ lower_than? q.0 best) where
  split : (P : ℕ → Type 0) → P x → ((y : ℕ) → y < x → P y) → (y : ℕ) → y < suc x → P y
  split P p h y l = go (ℕ_discrete y x)
    where
      go : Dec (y ≡ x) → P y
      go (yes e) = subst P (sym e) p
      go (no e) = h y (omega arith)

  abbrev A : Automaton
  A = decode s

  pub low_this : (b && c) ≡ true → LowestAdded A added (x + 1) (Some q)
  low_this t =
      rw add-one (record {
        nowhere = λ e. cc;
        here = λ r e. let z : q ≡ r = cc in subst (λ (w : number.State). (final? A w.0 ≡ true) × ((y : ℕ) × (y < suc x) × (get_or added y 0 ≡ w.0))) z (final, (x, omega arith, sym eq));
        lowest = λ r e. let z : q ≡ r = cc in subst (λ (w : number.State). (y : ℕ) → y < suc x → final? A (get_or added y 0) ≡ true → w.0 ≤ get_or added y 0) z (split (λ y. final? A (get_or added y 0) ≡ true → q.0 ≤ get_or added y 0) (λ k. omega arith) lower);
      })
    where
      both : T b × T c
      both = T_and b c ((T_true (b && c)).1 t)

      final : final? A q.0 ≡ true
      final = sym eb ∙ (T_true b).0 both.0

      lower : (y : ℕ) → y < x → final? A (get_or added y 0) ≡ true → q.0 ≤ get_or added y 0
      lower y l k = go best refl (sym ec ∙ (T_true c).0 both.1)
        where
          go : (o : Perhaps number.State) → best ≡ o → lower_than? q.0 o ≡ true → q.0 ≤ get_or added y 0
          go None e f = let z : ⊥ = subst T (sym k ∙ L.nowhere e y l) tt in absurd z
          go (Some w) e f = let v = ltb-true q.0 w.0 f in let u = L.lowest w e y l k in omega arith

  pub low_other : (b && c) ≡ false → LowestAdded A added (x + 1) best
  low_other t = rw add-one (go b c eb ec t)
    where
      old : (best ≡ None → final? A (get_or added x 0) ≡ false) → ((r : number.State) → best ≡ Some r → final? A (get_or added x 0) ≡ true → r.0 ≤ get_or added x 0) → LowestAdded A added (suc x) best
      old a d =
          record {
            nowhere = λ e. split (λ y. final? A (get_or added y 0) ≡ false) (a e) (L.nowhere e);
            here = λ r e. let (f, there) = L.here r e in let (y, l, g) = there in (f, (y, omega arith, g));
            lowest = λ r e. split (λ y. final? A (get_or added y 0) ≡ true → r.0 ≤ get_or added y 0) (d r e) (L.lowest r e);
          }

      go : (f g : Bool) → f ≡ final? A q.0 → g ≡ lower_than? q.0 best → (f && g) ≡ false → LowestAdded A added (suc x) best
      go false g ef eg h = old (λ e. ap (final? A) (sym eq) ∙ sym ef) (λ r e k. let z : ⊥ = subst T (sym k ∙ ap (final? A) (sym eq) ∙ sym ef) tt in absurd z)
      go true true ef eg h = let z : ⊥ = subst T h tt in absurd z
      go true false ef eg h =
          old (λ e. let z : ⊥ = subst T (sym (eg ∙ ap (lower_than? q.0) e)) tt in absurd z)
          (λ r e k. let v = ltb-false q.0 r.0 (sym (eg ∙ ap (lower_than? q.0) e)) in omega arith)

pub low_all : (A : Automaton) (added : List ℕ) (x n : ℕ) (best : Perhaps number.State) → LowestAdded A added x best → x ≤ n → n ≤ x → LowestAdded A added n best
low_all A added x n best L l g = let e : x ≡ n = omega arith in subst (λ z. LowestAdded A added z best) e L

pub ruleset marking = (past, target_in, rules)

pub ruleset rounding = (round_start, round_more, round_all, rules)

pub ruleset propagating = (propagated_none, propagated_more, propagated_all, rules)

pub ruleset lows = (low_none, low_this, low_other, low_all, rules)
