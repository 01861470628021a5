-- What the decoded automaton has at an index, in terms of the bytes; and the same of a value x that was read. Assumes nothing.
use mathlib.Core.Path.{◌≡◌, refl, sym, ap, ◌∙◌}
use mathlib.Core.Bool.{Bool, true, false, cond}
use mathlib.Core.List.{List}
use Prim.Native.Nat.{ℕ, ◌≤◌, ◌<◌}
use lib.Dec.{eqb, ltb}
use lib.ListN.{length, get_or}
use borrow.Author.Rules.{rules}
use borrow.Author.Tests.{ltb-true, ltb-false}
use Rattle.model.specs.Limits.{max_children, unused}
use Rattle.model.specs.Lists.{tab}
use Rattle.model.specs.Automaton.{Rule, State, no_state, state_at, arity_of, final?}
use Rattle.model.specs.Order.{place}
use Rattle.model.specs.Written.{no_rule, rule_at}
use Rattle.model.proofs.Tab.{tab_at, tab_past, length_tab}
use Rattle.automaton.proofs.Parts.{tab_same}
use Rattle.automaton.specs.Stored.{symbol_count, state_count, tag_count, rule_count, symbol_byte, final_byte, tags_of, rule_word, place_word, place_of, forget_of, state_of, rule_of, decode}

module _ (s : List ℕ) where
  pub symbols_are : length (decode s).arities ≡ symbol_count s
  unfolding decode
  symbols_are = length_tab (symbol_count s) (symbol_byte s)

  pub states_are : length (decode s).states ≡ state_count s
  unfolding decode
  states_are = length_tab (state_count s) (state_of s)

  pub tags_are : (decode s).tags ≡ tag_count s
  unfolding decode
  tags_are = refl

  pub rules_are : length (decode s).rules ≡ rule_count s
  unfolding decode
  rules_are = length_tab (rule_count s) (rule_of s)

  pub arity_known : (f : ℕ) → f < symbol_count s → arity_of (decode s) f ≡ symbol_byte s f
  unfolding decode
  arity_known f l = tab_at 0 (symbol_count s) (symbol_byte s) f l

  pub arity_unknown : (f : ℕ) → symbol_count s ≤ f → arity_of (decode s) f ≡ 0
  unfolding decode
  arity_unknown f l = tab_past 0 (symbol_count s) (symbol_byte s) f l

  pub state_known : (q : ℕ) → q < state_count s → state_at (decode s) q ≡ state_of s q
  unfolding decode
  state_known q l = tab_at no_state (state_count s) (state_of s) q l

  pub state_unknown : (q : ℕ) → state_count s ≤ q → state_at (decode s) q ≡ no_state
  unfolding decode
  state_unknown q l = tab_past no_state (state_count s) (state_of s) q l

  pub rule_known : (i : ℕ) → i < rule_count s → rule_at (decode s) i ≡ rule_of s i
  unfolding decode
  rule_known i l = tab_at no_rule (rule_count s) (rule_of s) i l

  pub rule_unknown : (i : ℕ) → rule_count s ≤ i → rule_at (decode s) i ≡ no_rule
  unfolding decode
  rule_unknown i l = tab_past no_rule (rule_count s) (rule_of s) i l

  place_in : (i n k : ℕ) (b : Bool) → ltb k n ≡ b → get_or (tab n (place_word s i)) k unused ≡ cond b (place_word s i k) unused
  place_in i n k true e = tab_at unused n (place_word s i) k (ltb-true k n e)
  place_in i n k false e = tab_past unused n (place_word s i) k (ltb-false k n e)

  pub place_known : (i k : ℕ) → i < rule_count s → place (rule_at (decode s) i) k ≡ place_of s i (arity_of (decode s) (rule_word s i 0)) k
  unfolding decode place_of
  place_known i k l = ap (λ (r : Rule). place r k) (rule_known i l) ∙ place_in i (arity_of (decode s) (rule_word s i 0)) k (ltb k (arity_of (decode s) (rule_word s i 0))) refl

  pub place_unknown : (i k : ℕ) → rule_count s ≤ i → place (rule_at (decode s) i) k ≡ unused
  place_unknown i k l = ap (λ (r : Rule). place r k) (rule_unknown i l)

-- the same of values that were read: n is a count, x what stands at the index
module _ (s : List ℕ) (n x : ℕ) where
  pub read_arity : (f : ℕ) → n ≡ symbol_count s → f < n → x ≡ symbol_byte s f → x ≡ arity_of (decode s) f
  read_arity f e l h = h ∙ sym (arity_known s f (rw e at l))

  pub read_mask : (q : ℕ) → n ≡ state_count s → q < n → x ≡ tags_of s q → x ≡ (state_at (decode s) q).mask
  read_mask q e l h = h ∙ sym (ap (λ (z : State). z.mask) (state_known s q (rw e at l)))

  pub read_final : (q : ℕ) → n ≡ state_count s → q < n → x ≡ final_byte s q → eqb x 1 ≡ final? (decode s) q
  read_final q e l h = rw h (sym (ap (λ (z : State). z.final) (state_known s q (rw e at l))))

  pub read_symbol : (i : ℕ) → n ≡ length (decode s).rules → i < n → x ≡ rule_word s i 0 → x ≡ (rule_at (decode s) i).symbol
  read_symbol i e l h = h ∙ sym (ap (λ (r : Rule). r.symbol) (rule_known s i (rw (e ∙ rules_are s) at l)))

  pub read_target : (i : ℕ) → n ≡ length (decode s).rules → i < n → x ≡ rule_word s i 1 → x ≡ (rule_at (decode s) i).target
  read_target i e l h = h ∙ sym (ap (λ (r : Rule). r.target) (rule_known s i (rw (e ∙ rules_are s) at l)))

  pub read_forget : (i : ℕ) → n ≡ length (decode s).rules → i < n → x ≡ forget_of s i → x ≡ (rule_at (decode s) i).forget
  read_forget i e l h = h ∙ sym (ap (λ (r : Rule). r.forget) (rule_known s i (rw (e ∙ rules_are s) at l)))

-- the symbol f, its arity a, and what was read of the places
module _ (s : List ℕ) (n i f a : ℕ) (e : n ≡ length (decode s).rules) (l : i < n) (ef : f ≡ rule_word s i 0) (ea : a ≡ arity_of (decode s) f) where
  pub read_place : (x k : ℕ) → x ≡ place_of s i a k → x ≡ place (rule_at (decode s) i) k
  read_place x k h = rw (place_known s i k (rw (e ∙ rules_are s) at l), ← ef, ← ea) h

  pub read_places : (xs : List ℕ) → xs ≡ tab max_children (place_of s i a) → xs ≡ tab max_children (place (rule_at (decode s) i))
  read_places xs h = h ∙ tab_same max_children (place_of s i a) (place (rule_at (decode s) i)) (λ k lk. read_place (place_of s i a k) k refl)

-- past the count, what nothing has
module _ (s : List ℕ) (n : ℕ) where
  pub no_arity : (f : ℕ) → n ≡ symbol_count s → n ≤ f → 0 ≡ arity_of (decode s) f
  no_arity f e l = sym (arity_unknown s f (rw e at l))

  pub no_mask : (q : ℕ) → n ≡ state_count s → n ≤ q → 0 ≡ (state_at (decode s) q).mask
  no_mask q e l = sym (ap (λ (z : State). z.mask) (state_unknown s q (rw e at l)))

  pub no_final : (q : ℕ) → n ≡ state_count s → n ≤ q → false ≡ final? (decode s) q
  no_final q e l = sym (ap (λ (z : State). z.final) (state_unknown s q (rw e at l)))

  pub no_symbol : (i : ℕ) → n ≡ length (decode s).rules → n ≤ i → 0 ≡ (rule_at (decode s) i).symbol
  no_symbol i e l = sym (ap (λ (r : Rule). r.symbol) (rule_unknown s i (rw (e ∙ rules_are s) at l)))

  pub no_target : (i : ℕ) → n ≡ length (decode s).rules → n ≤ i → 0 ≡ (rule_at (decode s) i).target
  no_target i e l = sym (ap (λ (r : Rule). r.target) (rule_unknown s i (rw (e ∙ rules_are s) at l)))

  pub no_forget : (i : ℕ) → n ≡ length (decode s).rules → n ≤ i → 0 ≡ (rule_at (decode s) i).forget
  no_forget i e l = sym (ap (λ (r : Rule). r.forget) (rule_unknown s i (rw (e ∙ rules_are s) at l)))

  pub no_place : (i k : ℕ) → n ≡ length (decode s).rules → n ≤ i → unused ≡ place (rule_at (decode s) i) k
  no_place i k e l = sym (place_unknown s i k (rw (e ∙ rules_are s) at l))

  pub no_places : (i : ℕ) → n ≡ length (decode s).rules → n ≤ i → tab max_children (λ (k : ℕ). unused) ≡ tab max_children (place (rule_at (decode s) i))
  no_places i e l = tab_same max_children (λ (k : ℕ). unused) (place (rule_at (decode s) i)) (λ k lk. no_place i k e l)

pub ruleset reads = (read_place, no_place, read_arity, read_mask, read_final, read_symbol, read_target, read_forget, no_arity, no_mask, no_final, no_symbol, no_target, no_forget, rules)
