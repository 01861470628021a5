-- The keys of shifted and of paired rules, and that merged or sorted they are the keys of the result's rules. Assumes nothing.
use mathlib.Core.Path.{◌≡◌, refl, sym, ap, ◌∙◌}
use mathlib.Core.List.Memᴰ
use mathlib.Core.List.{List, [], ◌∷◌, map, Memᴰ as In}
use Prim.Native.Nat.{ℕ, zero, suc, ◌+◌, ◌-◌, ◌*◌, ◌%◌, ◌^◌, ◌<◌}
use native.Mathlib.Nat.{zero-add, mul-one}
use native.Mathlib.Omega.{arith}
use native.Mathlib.Decide.{dec_lt}
use borrow.Author.Tests.{lt-ltb}
use lib.ListN.{length, get_or, length-map, get_or-eq_default}
use Rattle.model.specs.Limits.{max_children, max_states, unused}
use Rattle.model.specs.Automaton.{Rule, Automaton, arity_of}
use Rattle.model.specs.Order.{place, Ascending, sorted}
use Rattle.model.specs.Sound.{Sound}
use Rattle.model.specs.Written.{no_rule, rule_at}
use Rattle.model.specs.Boolean.{shift_rule, pair_numbers, pair_rule, pair_rules, union, product}
use Rattle.model.proofs.Tab.{tab_at}
use Rattle.model.proofs.Rows.{in_get_d}
use Rattle.model.proofs.Order.{ascending_other, is_sorted, sorted_in}
use Rattle.model.proofs.Members.{map_at}
use Rattle.model.proofs.Combine.{length_pair_numbers}
use Rattle.model.proofs.SoundUnion.{shift_ascending, union_rules}
use Rattle.automaton.specs.Answer.{IsRule}
use Rattle.automaton.proofs.Known.{window_in}
use Rattle.automaton.specs.declared.StoredRule.{StoredRule}
use Rattle.boolean.specs.Merge.{ordered, merged}
use Rattle.boolean.specs.Key.{mask_width, key_of, packed, shifted_place, paired_place}
use Rattle.boolean.specs.Ready.{Window, row}
use Rattle.boolean.proofs.Concat.{map_append}
use Rattle.boolean.proofs.Merging.{merged_ordered}
use Rattle.boolean.proofs.Packing.{small_of, ordered_packed, numbers, key_same}
use Rattle.boolean.proofs.Windows.{row_at_lem}

rule_place : (x : StoredRule) (r : Rule) → IsRule x r → (k : ℕ) → k < max_children → get_or (numbers x.places) k 0 ≡ place r k
rule_place x r h k l = ap (λ (z : List ℕ). get_or z k 0) h.places ∙ tab_at 0 max_children (place r) k l

-- children that are states' numbers
abbrev Low : Rule → Type 0
Low r = (q : ℕ) → In q r.children → q < max_states

module _ (n t : ℕ) where
  shifted_state : (p : ℕ) → p < max_states → shifted_place n p ≡ n + p
  unfolding shifted_place
  shifted_state p l = rw (lt-ltb p max_states l)

  shifted_unused : (p : ℕ) → p ≡ unused → shifted_place n p ≡ unused
  unfolding shifted_place
  shifted_unused p e = ap (shifted_place n) e

  paired_state : (p q : ℕ) → p < max_states → paired_place n p q ≡ p * n + q
  unfolding paired_place
  paired_state p q l = rw (lt-ltb p max_states l)

  paired_unused : (p q : ℕ) → p ≡ unused → paired_place n p q ≡ unused
  unfolding paired_place
  paired_unused p q e = ap (λ (z : ℕ). paired_place n z q) e

  shifted_at : (r : Rule) → Low r → (k : ℕ) → shifted_place n (place r k) ≡ place (shift_rule n t r) k
  shifted_at r low k = go (dec_lt k (length r.children))
    where
      go : Dec (k < length r.children) → shifted_place n (place r k) ≡ place (shift_rule n t r) k
      go (yes l) = shifted_state (place r k) (low (place r k) (in_get_d unused r.children k l)) ∙ sym (map_at (n +◌) unused unused r.children k l)
      go (no l) =
          shifted_unused (place r k) (get_or-eq_default r.children unused (omega arith))
          ∙ sym (get_or-eq_default (map (n +◌) r.children) unused (omega (arith, length-map r.children (n +◌))))

  -- The key of a shifted rule.
  pub shifted_key : (x : StoredRule) (r : Rule) → IsRule x r → Low r → key_of x.symbol (λ k. shifted_place n (get_or (numbers x.places) k 0)) (n + x.target.0) (x.forget * 2 ^ t) ≡ packed (shift_rule n t r)
  shifted_key x r h low =
      key_same x.symbol r.symbol (n + x.target.0) (n + r.target) (x.forget * 2 ^ t) (r.forget * 2 ^ t) (λ k. shifted_place n (get_or (numbers x.places) k 0)) (place (shift_rule n t r))
      h.symbol (λ k l. ap (shifted_place n) (rule_place x r h k l) ∙ shifted_at r low k) (ap (n +◌) h.target) (ap (λ (z : ℕ). z * 2 ^ t % 2 ^ mask_width) h.forget)

  numbers_at : (d : ℕ) (ps qs : List ℕ) → length ps ≡ length qs → (k : ℕ) → k < length ps → get_or (pair_numbers n ps qs) k d ≡ get_or ps k d * n + get_or qs k d
  numbers_at d [] qs e k l = absurd (omega arith)
  numbers_at d (p ∷ ps) [] e k l = absurd (omega arith)
  numbers_at d (p ∷ ps) (q ∷ qs) e zero l = refl
  numbers_at d (p ∷ ps) (q ∷ qs) e (suc k) l = numbers_at d ps qs (omega arith) k (omega arith)

  paired_at : (r s : Rule) → Low r → length r.children ≡ length s.children → (k : ℕ) → paired_place n (place r k) (place s k) ≡ place (pair_rule n t r s) k
  paired_at r s low same k = go (dec_lt k (length r.children))
    where
      go : Dec (k < length r.children) → paired_place n (place r k) (place s k) ≡ place (pair_rule n t r s) k
      go (yes l) = paired_state (place r k) (place s k) (low (place r k) (in_get_d unused r.children k l)) ∙ sym (numbers_at unused r.children s.children same k l)
      go (no l) =
          paired_unused (place r k) (place s k) (get_or-eq_default r.children unused (omega arith))
          ∙ sym (get_or-eq_default (pair_numbers n r.children s.children) unused (omega (arith, length_pair_numbers n r.children s.children same)))

  -- The key of the rule that pairs two.
  pub paired_key : (x y : StoredRule) (r s : Rule) → IsRule x r → IsRule y s → Low r → length r.children ≡ length s.children → key_of x.symbol (λ k. paired_place n (get_or (numbers x.places) k 0) (get_or (numbers y.places) k 0)) (x.target.0 * n + y.target.0) (x.forget + y.forget * 2 ^ t) ≡ packed (pair_rule n t r s)
  paired_key x y r s h g low same =
      key_same x.symbol r.symbol (x.target.0 * n + y.target.0) (r.target * n + s.target) (x.forget + y.forget * 2 ^ t) (r.forget + s.forget * 2 ^ t)
      (λ k. paired_place n (get_or (numbers x.places) k 0) (get_or (numbers y.places) k 0)) (place (pair_rule n t r s))
      h.symbol
      (λ k l. ap (λ (z : ℕ). paired_place n z (get_or (numbers y.places) k 0)) (rule_place x r h k l) ∙ ap (paired_place n (place r k)) (rule_place y s g k l) ∙ paired_at r s low same k)
      (ap (λ (z : ℕ). z * n + y.target.0) h.target ∙ ap (λ (z : ℕ). r.target * n + z) g.target)
      (ap (λ (z : ℕ). (z + y.forget * 2 ^ t) % 2 ^ mask_width) h.forget ∙ ap (λ (z : ℕ). (r.forget + z * 2 ^ t) % 2 ^ mask_width) g.forget)

-- what stands at an index of the keys of a set's shifted rules, and of a rule's pairs
module _ (A : Automaton) (sa : Sound A) (i : ℕ) (l : i < length A.rules) (x : StoredRule) (h : IsRule x (rule_at A i)) where
  its_low : Low (rule_at A i)
  its_low = (small_of A sa (rule_at A i) (in_get_d no_rule A.rules i l)).children

  pub shifted_key_at : (n t z : ℕ) → z ≡ key_of x.symbol (λ k. shifted_place n (get_or (numbers x.places) k 0)) (n + x.target.0) (x.forget * 2 ^ t) → z ≡ get_or (map packed (map (shift_rule n t) A.rules)) i 0
  shifted_key_at n t z e =
      e
      ∙ shifted_key n t x (rule_at A i) h its_low
      ∙ ap packed (sym (map_at (shift_rule n t) no_rule no_rule A.rules i l))
      ∙ sym (map_at packed no_rule 0 (map (shift_rule n t) A.rules) i (omega (arith, length-map A.rules (shift_rule n t))))

  module _ (B : Automaton) (sb : Sound B) (same : A.arities ≡ B.arities) (from to k : ℕ) (w : Window B (rule_at A i).symbol from to) (lk : k < to - from) (y : StoredRule) (g : IsRule y (rule_at B (from + k))) where
    as_many : length (rule_at A i).children ≡ length (rule_at B (from + k)).children
    as_many =
        let t = w.stops.within in
        let f : (rule_at B (from + k)).symbol ≡ (rule_at A i).symbol = window_in B (rule_at A i).symbol from to w.starts w.stops (from + k) (omega arith) (omega arith) in
        sa.wellformed.as_many (rule_at A i) (in_get_d no_rule A.rules i l)
        ∙ ap (λ (z : List ℕ). get_or z (rule_at A i).symbol 0) same
        ∙ ap (arity_of B) (sym f)
        ∙ sym (sb.wellformed.as_many (rule_at B (from + k)) (in_get_d no_rule B.rules (from + k) (omega arith)))

    pub paired_key_at : (n t z : ℕ) → n ≡ length B.states → t ≡ A.tags → z ≡ key_of x.symbol (λ j. paired_place n (get_or (numbers x.places) j 0) (get_or (numbers y.places) j 0)) (x.target.0 * n + y.target.0) (x.forget + y.forget * 2 ^ t) → z ≡ get_or (map packed (row A.tags B (rule_at A i))) k 0
    paired_key_at n t z en et e =
        e
        ∙ paired_key n t x y (rule_at A i) (rule_at B (from + k)) h g its_low as_many
        ∙ ap (λ (m : ℕ). packed (pair_rule m t (rule_at A i) (rule_at B (from + k)))) en
        ∙ ap (λ (u : ℕ). packed (pair_rule (length B.states) u (rule_at A i) (rule_at B (from + k)))) et
        ∙ sym (row_at_lem A.tags B (rule_at A i) from to w k lk)

-- a shift by 0
numbers_zero : (ps : List ℕ) → map (0 +◌) ps ≡ ps
numbers_zero [] = refl
numbers_zero (p ∷ ps) = ap (◌∷ map (0 +◌) ps) (zero-add p) ∙ ap (p ∷◌) (numbers_zero ps)

rules_zero : (rs : List Rule) → map (shift_rule 0 0) rs ≡ rs
rules_zero [] = refl
rules_zero (r ∷ rs) = ap (◌∷ map (shift_rule 0 0) rs) (λ i. record { symbol = r.symbol; children = numbers_zero r.children i; target = zero-add r.target i; forget = mul-one r.forget i }) ∙ ap (r ∷◌) (rules_zero rs)

ascending_sorted : (rs : List Rule) → Ascending rs → rs ≡ sorted rs
ascending_sorted rs h = is_sorted rs rs (ascending_other rs h) h (λ r. (λ m. m, λ m. m))

module _ (A B : Automaton) (sa : Sound A) (sb : Sound B) where
  -- Merged, the keys of the first's rules and of the second's, shifted, are those of the union's rules.
  pub union_keys : Sound (union A B) → merged (map packed (map (shift_rule 0 0) A.rules)) (map packed (map (shift_rule (length A.states) A.tags) B.rules)) ≡ map packed (union A B).rules
  union_keys su =
      ap (λ (z : List Rule). merged (map packed z) (map packed seconds)) (rules_zero A.rules)
      ∙ ap (λ (z : List ℕ). merged z (map packed seconds)) (in_order A.rules sa.ascending (λ r m. sorted_in (union_rules A B) (Memᴰ.append_left seconds m)))
      ∙ ap (merged (ordered (map packed A.rules))) (in_order seconds (shift_ascending B sb.wellformed sb.ascending (length A.states) A.tags) (λ r m. sorted_in (union_rules A B) (Memᴰ.append_right A.rules m)))
      ∙ merged_ordered (map packed A.rules) (map packed seconds)
      ∙ ap ordered (sym (map_append packed A.rules seconds))
      ∙ ordered_packed (union A B) su (union_rules A B) (λ r m. sorted_in (union_rules A B) m)
    where
      seconds : List Rule
      seconds = map (shift_rule (length A.states) A.tags) B.rules

      -- the keys of ascending rules are in order
      in_order : (rs : List Rule) → Ascending rs → ((r : Rule) → In r rs → In r (union A B).rules) → map packed rs ≡ ordered (map packed rs)
      in_order rs h m = ap (map packed) (ascending_sorted rs h) ∙ sym (ordered_packed (union A B) su rs m)

  -- Sorted, the keys of the pairs are those of the product's rules.
  pub product_keys : Sound (product A B) → ordered (map packed (pair_rules (length B.states) A.tags A.rules B.rules)) ≡ map packed (product A B).rules
  product_keys sp = ordered_packed (product A B) sp (pair_rules (length B.states) A.tags A.rules B.rules) (λ r m. sorted_in _ m)
