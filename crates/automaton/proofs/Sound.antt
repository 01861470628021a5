-- A set that no test refuses stands for a sound automaton. Assumes nothing.
use mathlib.Core.Path.{◌≡◌, refl, sym, ap, ◌∙◌, subst}
use mathlib.Core.Bool.{true, false}
use mathlib.Core.Logic.{⊎_elim}
use mathlib.Core.List.{List, [], ◌∷◌, ◌++◌, Memᴰ as In}
use Prim.Native.Nat.{ℕ, zero, suc, ◌+◌, ◌≤◌, ◌<◌}
use native.Mathlib.Omega.{arith}
use native.Mathlib.Numerals.{add-one}
use lib.Dec.{T}
use lib.ListN.{length}
use lib.Pow.{pow_pos}
use borrow.Author.Tests.{lt-ltb, le-ltb, ltb-true, eqb-true}
use Rattle.model.specs.Limits.{max_children, unused}
use Rattle.model.specs.Lists.{tab}
use Rattle.model.specs.Automaton.{Rule, Wellformed, ForgetsNothing, arity_of}
use Rattle.model.specs.Order.{place, key, lower?, before?, Ascending}
use Rattle.model.specs.Sound.{Sound}
use Rattle.model.proofs.Members.{T_true}
use Rattle.model.proofs.Tab.{tab_at, tab_past, length_tab, in_tab}
use Rattle.automaton.specs.Stored.{symbol_count, state_count, tag_count, rule_count, rules_at, symbol_byte, rule_word, place_word, form_of, forget_of, rule_of, decode}
use Rattle.automaton.specs.Form.{state_width, tags_width, rule_width, rule_numbers, isolating?, kept_mask, rules_offset, total_length, HasRoom}
use Rattle.automaton.specs.declared.Form.{Form}
use Rattle.automaton.specs.declared.Form.TheVariants.{Narrow, Wide, Isolating}
use Rattle.automaton.specs.Encode.{encoded_length}
use Rattle.automaton.specs.Check.{place_ok, key_word, ascends_at, check_of}
use Rattle.automaton.proofs.Parts.{below_or, tab_same}
use Rattle.automaton.proofs.Widths.{Told, form_told, kept_mask_twice}
use Rattle.automaton.proofs.Decode.{symbols_are, states_are, rules_are, arity_known, arity_unknown, state_known, state_unknown}
use Rattle.automaton.proofs.Passes.{Passes, passes}

pub ascending_tab : (n : ℕ) (f : ℕ → Rule) → ((i : ℕ) → suc i < n → T (before? (f i) (f (suc i)))) → Ascending (tab n f)
ascending_tab zero f h = tt
ascending_tab (suc zero) f h = tt
ascending_tab (suc (suc n)) f h = (h 0 (omega arith), ascending_tab (suc n) (λ k. f (suc k)) (λ i l. h (suc i) (omega arith)))

module _ (s : List ℕ) (p : Passes s) where
  pub arity_few : (f : ℕ) → arity_of (decode s) f ≤ max_children
  arity_few f =
      ⊎_elim (λ l. rw (arity_known s f l) (p.symbols f l)) (λ l. rw (arity_unknown s f l) (omega arith)) (below_or f (symbol_count s))

  module _ (i : ℕ) (l : i < rule_count s) where
    pub rule_arity : arity_of (decode s) (rule_word s i 0) ≡ symbol_byte s (rule_word s i 0)
    rule_arity = arity_known s (rule_word s i 0) (p.rules i l).0

    -- a place in use holds a state, any other 65535
    pub place_state : (k : ℕ) → k < symbol_byte s (rule_word s i 0) → place_word s i k < state_count s
    unfolding place_ok
    place_state k lk =
        let few : symbol_byte s (rule_word s i 0) ≤ max_children = p.symbols (rule_word s i 0) (p.rules i l).0 in
        ltb-true _ _ (rw (lt-ltb k (symbol_byte s (rule_word s i 0)) lk) at (p.places i l k (omega arith)))

    pub place_rest : (k : ℕ) → symbol_byte s (rule_word s i 0) ≤ k → k < max_children → place_word s i k ≡ unused
    unfolding place_ok
    place_rest k lk m = eqb-true _ _ (rw (le-ltb k (symbol_byte s (rule_word s i 0)) lk) at (p.places i l k m))

    pub place_is : (k : ℕ) → k < max_children → place (rule_of s i) k ≡ place_word s i k
    unfolding decode
    place_is k m =
        ⊎_elim
        (λ lk. tab_at unused (arity_of (decode s) (rule_word s i 0)) (place_word s i) k (rw rule_arity lk))
        (λ lk. tab_past unused (arity_of (decode s) (rule_word s i 0)) (place_word s i) k (rw rule_arity lk) ∙ sym (place_rest k lk m))
        (below_or k (symbol_byte s (rule_word s i 0)))

    pub key_is : key (rule_of s i) ≡ tab (max_children + 2) (key_word s i)
    unfolding key_word
    key_is = ap (λ (ps : List ℕ). rule_word s i 0 ∷ ps ++ rule_word s i 1 ∷ []) (tab_same max_children (place (rule_of s i)) (place_word s i) place_is)

  before_next : (i : ℕ) → suc i < rule_count s → T (before? (rule_of s i) (rule_of s (suc i)))
  unfolding ascends_at
  before_next i l =
      let e : ascends_at s i ≡ true = p.ascends i (omega arith) in
      let e' : lower? (tab (max_children + 2) (key_word s i)) (tab (max_children + 2) (key_word s (suc i))) ≡ true = rw add-one at e in
      (T_true (before? (rule_of s i) (rule_of s (suc i)))).1
      (ap (λ (a : List ℕ). lower? a (key (rule_of s (suc i)))) (key_is i (omega arith))
      ∙ ap (λ (b : List ℕ). lower? (tab (max_children + 2) (key_word s i)) b) (key_is (suc i) l)
      ∙ e')

  well : Wellformed (decode s)
  unfolding decode
  well = record {
    targets = λ r m. let (i, l, e) = in_tab (rule_count s) (rule_of s) m in rw (e, states_are s) (p.rules i l).1;
    children = λ r m q n.
        let (i, l, e) = in_tab (rule_count s) (rule_of s) m in
        let (k, lk, eq) = in_tab (arity_of (decode s) (rule_word s i 0)) (place_word s i) (subst (λ (z : Rule). In q z.children) e n) in
        rw (eq, states_are s) (place_state i l k (omega (arith, rule_arity i l, lk)));
    symbols = λ r m. let (i, l, e) = in_tab (rule_count s) (rule_of s) m in rw (e, symbols_are s) (p.rules i l).0;
    as_many = λ r m. let (i, l, e) = in_tab (rule_count s) (rule_of s) m in rw e (length_tab (arity_of (decode s) (rule_word s i 0)) (place_word s i));
    masks = λ q. ⊎_elim (λ l. rw (state_known s q l) (p.states q l).1) (λ l. rw (state_unknown s q l) (pow_pos (tag_count s))) (below_or q (state_count s));
    forgets = λ r m. let (i, l, e) = in_tab (rule_count s) (rule_of s) m in rw e (p.forgets i l);
  }

-- Bytes that the check passes stand for an automaton with every range and order of document 01.
pub sound_decode : (s : List ℕ) → check_of s ≡ 0 → Sound (decode s)
unfolding decode
sound_decode s h =
    let p = passes s h in
    let c = p.counts in
    let S = symbols_are s in
    let Q = states_are s in
    let R = rules_are s in
    record {
      some_symbol = let z = c.some_symbol in omega arith;
      few_symbols = let z = c.few_symbols in omega arith;
      some_state = let z = c.some_state in omega arith;
      few_states = let z = c.few_states in omega arith;
      few_tags = c.few_tags;
      few_rules = let z = c.few_rules in omega arith;
      few_children = arity_few s p;
      wellformed = well s p;
      ascending = ascending_tab (rule_count s) (rule_of s) (before_next s p);
    }

-- .. for which their own form has room.
pub room_own : (s : List ℕ) → check_of s ≡ 0 → HasRoom (form_of s) (decode s)
unfolding decode forget_of
room_own s h =
    record {
      bits = (passes s h).offsets.bits;
      masks = λ r m. let (i, l, e) = in_tab (rule_count s) (rule_of s) m in rw e (kept_mask_twice (form_of s) (rule_word s i (max_children + 2)));
    }

-- Rules in a form without a place for masks forget nothing, whatever the bytes.
pub plain_forgets : (s : List ℕ) → isolating? (form_of s) ≡ false → ForgetsNothing (decode s)
unfolding decode forget_of kept_mask
plain_forgets s e r m = let (i, l, d) = in_tab (rule_count s) (rule_of s) m in rw d (go (form_of s) (rule_word s i (max_children + 2)) e)
  where
    go : (form : Form) (mask : ℕ) → isolating? form ≡ false → kept_mask form mask ≡ 0
    go Narrow mask e = refl
    go Wide mask e = refl
    go Isolating mask e = let z : ◌≡◌ {A = ℕ} 0 1 = cc in absurd (omega arith)

-- Of a sound set the header tells the form ..
pub told_own : (s : List ℕ) → check_of s ≡ 0 → Told (form_of s) (length (decode s).rules)
unfolding form_of state_width tags_width rule_width rule_numbers
told_own s h = subst (Told (form_of s)) (sym (rules_are s)) (go (form_of s) refl)
  where
    p : Passes s
    p = passes s h

    none : form_of s ≡ Isolating → rule_count s < 1 → form_of s ≡ Wide
    none e l =
        let at : rules_at s ≡ rules_offset Wide (symbol_count s) (state_count s) = p.offsets.rules_at_lem ∙ ap (λ (form : Form). rules_offset form (symbol_count s) (state_count s)) e in
        let total = p.offsets.total ∙ ap (λ (form : Form). total_length form (symbol_count s) (state_count s) (rule_count s)) e in
        form_told Wide (symbol_count s) (state_count s) (rule_count s) _ _ _ _ _ p.counts.some_state tt refl p.offsets.states_at_lem at refl (omega arith)

    one_place : true ≡ false → ⊥
    one_place z = let n : ◌≡◌ {A = ℕ} 0 1 = cc in omega arith

    go : (form : Form) → form_of s ≡ form → Told form (rule_count s)
    go Narrow e = tt
    go Wide e = tt
    go Isolating e =
        ⊎_elim (λ l. absurd (one_place (ap isolating? (sym e ∙ none e l)))) (λ l. l) (below_or (rule_count s) 1)

-- .. and it is as long as that form makes it.
pub length_own : (s : List ℕ) → check_of s ≡ 0 → length s ≡ encoded_length (form_of s) (decode s)
length_own s h = rw (symbols_are s, states_are s, rules_are s) (passes s h).offsets.whole
