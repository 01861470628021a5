-- What each test of the check tells where it passes; and the tests of one rule, of values that were read. Assumes nothing.
use mathlib.Core.Path.{◌≡◌, refl, sym, subst}
use mathlib.Core.Bool.{Bool, true, false, ◌&&◌}
use mathlib.Core.List.{List}
use Prim.Native.Nat.{ℕ, suc, ◌+◌, ◌-◌, ◌^◌, ◌≤◌, ◌<◌}
use native.Mathlib.Omega.{arith}
use lib.Dec.{T, eqb, leb, ltb}
use lib.ListN.{length}
use borrow.Author.Rules.{rules}
use borrow.Author.Tests.{lt-ltb, le-ltb, le-leb, eq-eqb, ltb-true, leb-true, eqb-true}
use Rattle.model.specs.Limits.{max_symbols, max_children, max_states, max_tags, max_rules, unused}
use Rattle.model.specs.Lists.{all_below}
use Rattle.model.specs.Refusal.{demand}
use Rattle.model.proofs.Below.{at}
use Rattle.automaton.proofs.Parts.{all_of}
use Rattle.automaton.specs.Form.{header_width, tag_bits, states_offset, rules_offset, total_length}
use Rattle.automaton.specs.Stored.{symbol_count, state_count, tag_count, rule_count, symbols_at, states_at, rules_at, stated_total, form_of, symbol_byte, final_byte, tags_of, rule_word, place_word, forget_of}
use Rattle.automaton.specs.Check.{counts_ok, offsets_ok, symbol_ok, state_ok, place_ok, rule_ok, ascends_at, forget_ok, check_of}

pub split : (a b : Bool) → (a && b) ≡ true → (a ≡ true) × (b ≡ true)
split true b h = (refl, h)
split false b h = absurd (subst T (sym h) tt)

-- 2 and 3, field by field
pub record Counted (s : List ℕ) : Type 0 where
  pub some_symbol : 1 ≤ symbol_count s
  pub few_symbols : symbol_count s ≤ max_symbols
  pub some_state : 1 ≤ state_count s
  pub few_states : state_count s ≤ max_states
  pub few_tags : tag_count s ≤ max_tags
  pub few_rules : rule_count s ≤ max_rules

pub counted : (s : List ℕ) → counts_ok s ≡ true → Counted s
unfolding counts_ok
counted s h =
    let five = split _ _ h in
    let four = split _ _ five.0 in
    let three = split _ _ four.0 in
    let two = split _ _ three.0 in
    let one = split _ _ two.0 in
    record {
      some_symbol = leb-true 1 (symbol_count s) one.0;
      few_symbols = leb-true (symbol_count s) max_symbols one.1;
      some_state = leb-true 1 (state_count s) two.1;
      few_states = leb-true (state_count s) max_states three.1;
      few_tags = leb-true (tag_count s) max_tags four.1;
      few_rules = leb-true (rule_count s) max_rules five.1;
    }

pub record Placed (s : List ℕ) : Type 0 where
  pub symbols_at_lem : symbols_at s ≡ header_width
  pub states_at_lem : states_at s ≡ states_offset (symbol_count s)
  pub rules_at_lem : rules_at s ≡ rules_offset (form_of s) (symbol_count s) (state_count s)
  pub total : stated_total s ≡ total_length (form_of s) (symbol_count s) (state_count s) (rule_count s)
  pub whole : length s ≡ total_length (form_of s) (symbol_count s) (state_count s) (rule_count s)
  pub bits : tag_count s ≤ tag_bits (form_of s)

pub placed : (s : List ℕ) → offsets_ok s ≡ true → Placed s
unfolding offsets_ok
placed s h =
    let five = split _ _ h in
    let four = split _ _ five.0 in
    let three = split _ _ four.0 in
    let two = split _ _ three.0 in
    let one = split _ _ two.0 in
    record {
      symbols_at_lem = eqb-true (symbols_at s) header_width one.0;
      states_at_lem = eqb-true (states_at s) (states_offset (symbol_count s)) one.1;
      rules_at_lem = eqb-true (rules_at s) (rules_offset (form_of s) (symbol_count s) (state_count s)) two.1;
      total = eqb-true (stated_total s) (total_length (form_of s) (symbol_count s) (state_count s) (rule_count s)) three.1;
      whole = eqb-true (length s) (total_length (form_of s) (symbol_count s) (state_count s) (rule_count s)) four.1;
      bits = leb-true (tag_count s) (tag_bits (form_of s)) five.1;
    }

rule_parts : (s : List ℕ) (i : ℕ) → rule_ok s i ≡ true → (rule_word s i 0 < symbol_count s) × (rule_word s i 1 < state_count s) × (all_below max_children (place_ok s i) ≡ true)
unfolding rule_ok
rule_parts s i h =
    let p = split (ltb (rule_word s i 0) (symbol_count s) && ltb (rule_word s i 1) (state_count s)) (all_below max_children (place_ok s i)) h in
    let q = split (ltb (rule_word s i 0) (symbol_count s)) (ltb (rule_word s i 1) (state_count s)) p.0 in
    (ltb-true (rule_word s i 0) (symbol_count s) q.0, ltb-true (rule_word s i 1) (state_count s) q.1, p.1)

pub met : (t : Bool) (n rest : ℕ) → demand t (suc n) rest ≡ 0 → (t ≡ true) × (rest ≡ 0)
unfolding demand
met true n rest h = (refl, h)
met false n rest h = absurd (omega arith)

-- The bytes of a sound set, test by test.
pub record Passes (s : List ℕ) : Type 0 where
  pub header : header_width ≤ length s
  pub counts : Counted s
  pub offsets : Placed s
  pub symbols : (i : ℕ) → i < symbol_count s → symbol_byte s i ≤ max_children
  pub states : (q : ℕ) → q < state_count s → (final_byte s q ≤ 1) × (tags_of s q < 2 ^ tag_count s)
  pub rules : (i : ℕ) → i < rule_count s → (rule_word s i 0 < symbol_count s) × (rule_word s i 1 < state_count s)
  pub places : (i : ℕ) → i < rule_count s → (k : ℕ) → k < max_children → place_ok s i k ≡ true
  pub ascends : (i : ℕ) → i + 1 < rule_count s → ascends_at s i ≡ true
  pub forgets : (i : ℕ) → i < rule_count s → forget_of s i < 2 ^ tag_count s

pub passes : (s : List ℕ) → check_of s ≡ 0 → Passes s
unfolding check_of symbol_ok state_ok forget_ok
passes s h =
    let one = met (leb header_width (length s)) 0 _ h in
    let two = met (counts_ok s) 1 _ one.1 in
    let three = met (offsets_ok s) 2 _ two.1 in
    let four = met (all_below (symbol_count s) (symbol_ok s)) 3 _ three.1 in
    let five = met (all_below (state_count s) (state_ok s)) 4 _ four.1 in
    let six = met (all_below (rule_count s) (rule_ok s)) 5 _ five.1 in
    let seven = met (all_below (rule_count s - 1) (ascends_at s)) 6 _ six.1 in
    let nine = met (all_below (rule_count s) (forget_ok s)) 8 _ seven.1 in
    record {
      header = leb-true header_width (length s) one.0;
      counts = counted s two.0;
      offsets = placed s three.0;
      symbols = λ i l. leb-true (symbol_byte s i) max_children (at (symbol_ok s) (symbol_count s) i four.0 l);
      states = λ q l.
          let p = split (leb (final_byte s q) 1) _ (at (state_ok s) (state_count s) q five.0 l) in
          (leb-true (final_byte s q) 1 p.0, ltb-true (tags_of s q) (2 ^ tag_count s) p.1);
      rules = λ i l. let p = rule_parts s i (at (rule_ok s) (rule_count s) i six.0 l) in (p.0, p.1);
      places = λ i l k lk. at (place_ok s i) max_children k (rule_parts s i (at (rule_ok s) (rule_count s) i six.0 l)).2 lk;
      ascends = λ i l. at (ascends_at s) (rule_count s - 1) i seven.0 (omega arith);
      forgets = λ i l. ltb-true (forget_of s i) (2 ^ tag_count s) (at (forget_ok s) (rule_count s) i nine.0 l);
    }

pub meets : (t : Bool) (n rest : ℕ) → t ≡ true → rest ≡ 0 → demand t n rest ≡ 0
unfolding demand
meets t n rest y h = rw y h

-- And back: bytes with all of that are refused by no number.
pub passing : (s : List ℕ) → Passes s → check_of s ≡ 0
unfolding check_of counts_ok offsets_ok symbol_ok state_ok rule_ok forget_ok
passing s p =
    let c = p.counts in
    let o = p.offsets in
    meets (leb header_width (length s)) 1 _ (le-leb header_width (length s) p.header)
    (meets (counts_ok s) 2 _
    (rw (
      le-leb 1 (symbol_count s) c.some_symbol,
      le-leb (symbol_count s) max_symbols c.few_symbols,
      le-leb 1 (state_count s) c.some_state,
      le-leb (state_count s) max_states c.few_states,
      le-leb (tag_count s) max_tags c.few_tags,
      le-leb (rule_count s) max_rules c.few_rules,
    ))
    (meets (offsets_ok s) 3 _
    (rw (
      eq-eqb (symbols_at s) header_width o.symbols_at_lem,
      eq-eqb (states_at s) (states_offset (symbol_count s)) o.states_at_lem,
      eq-eqb (rules_at s) (rules_offset (form_of s) (symbol_count s) (state_count s)) o.rules_at_lem,
      eq-eqb (stated_total s) (total_length (form_of s) (symbol_count s) (state_count s) (rule_count s)) o.total,
      eq-eqb (length s) (total_length (form_of s) (symbol_count s) (state_count s) (rule_count s)) o.whole,
      le-leb (tag_count s) (tag_bits (form_of s)) o.bits,
    ))
    (meets (all_below (symbol_count s) (symbol_ok s)) 4 _
    (all_of (symbol_count s) (symbol_ok s) (λ i l. le-leb (symbol_byte s i) max_children (p.symbols i l)))
    (meets (all_below (state_count s) (state_ok s)) 5 _
    (all_of (state_count s) (state_ok s) (λ q l. rw (le-leb (final_byte s q) 1 (p.states q l).0, lt-ltb (tags_of s q) (2 ^ tag_count s) (p.states q l).1)))
    (meets (all_below (rule_count s) (rule_ok s)) 6 _
    (all_of (rule_count s) (rule_ok s) (λ i l. rw (lt-ltb (rule_word s i 0) (symbol_count s) (p.rules i l).0, lt-ltb (rule_word s i 1) (state_count s) (p.rules i l).1) (all_of max_children (place_ok s i) (p.places i l))))
    (meets (all_below (rule_count s - 1) (ascends_at s)) 7 _
    (all_of (rule_count s - 1) (ascends_at s) (λ i l. p.ascends i (omega arith)))
    (meets (all_below (rule_count s) (forget_ok s)) 9 0
    (all_of (rule_count s) (forget_ok s) (λ i l. lt-ltb (forget_of s i) (2 ^ tag_count s) (p.forgets i l)))
    refl)))))))

-- The highest number of a set is 9.
demand_most : (t : Bool) (n rest : ℕ) → n ≤ 9 → rest ≤ 9 → demand t n rest ≤ 9
unfolding demand
demand_most true n rest h k = k
demand_most false n rest h k = h

pub check_most : (s : List ℕ) → check_of s ≤ 9
unfolding check_of
check_most s =
    demand_most _ 1 _ (omega arith)
    (demand_most _ 2 _ (omega arith)
    (demand_most _ 3 _ (omega arith)
    (demand_most _ 4 _ (omega arith)
    (demand_most _ 5 _ (omega arith)
    (demand_most _ 6 _ (omega arith)
    (demand_most _ 7 _ (omega arith)
    (demand_most _ 9 _ (omega arith) (omega arith))))))))

-- a place of a rule, of the values that were read: the place x, the arity a of its symbol, the states q
module _ (s : List ℕ) (i k x a q : ℕ) (ex : x ≡ place_word s i k) (ea : a ≡ symbol_byte s (rule_word s i 0)) where
  pub place_used : q ≡ state_count s → k < a → ltb x q ≡ place_ok s i k
  unfolding place_ok
  place_used eq l = rw (← ea, lt-ltb k a l, ex, eq)

  pub place_free : a ≤ k → eqb x unused ≡ place_ok s i k
  unfolding place_ok
  place_free l = rw (← ea, le-ltb k a l, ex)

-- the bound b of masks, of the tags t that were read
pub bound_is : (t m b : ℕ) → t ≡ m → b ≡ 2 ^ t → b ≡ 2 ^ m
bound_is t m b e h = rw (← e) h

pub ruleset places = (place_used, place_free, rules)
