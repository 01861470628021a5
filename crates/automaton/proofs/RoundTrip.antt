-- Encoding and decoding undo one another, and what is encoded passes the check. Assumes nothing.
use mathlib.Core.Path.{◌≡◌, refl, sym, ap, ◌∙◌, subst}
use mathlib.Core.Bool.{Bool, true, false, cond}
use mathlib.Core.Logic.{⊎_elim}
use mathlib.Core.List.{List, [], ◌∷◌, ◌++◌}
use Prim.Native.Nat.{ℕ, zero, suc, ◌+◌, ◌≤◌, ◌<◌}
use native.Mathlib.Omega.{arith}
use native.Mathlib.Numerals.{add-one}
use lib.Dec.{T, eqb}
use lib.ListN.{length, get_or}
use borrow.Author.Tests.{lt-ltb, le-ltb, eq-eqb}
use Rattle.model.specs.Limits.{max_children, unused}
use Rattle.model.specs.Lists.{tab}
use Rattle.model.specs.Automaton.{Rule, Automaton, no_state, arity_of, state_at}
use Rattle.model.specs.Order.{place, key, lower?, before?, Ascending}
use Rattle.model.specs.Sound.{Sound}
use Rattle.model.specs.Written.{no_rule, rule_at}
use Rattle.model.proofs.Members.{T_true}
use Rattle.model.proofs.Rows.{in_get_d}
use Rattle.automaton.specs.Stored.{symbol_count, state_count, rule_count, symbol_byte, final_byte, rule_word, place_word, arities_of, state_of, rule_of, decode}
use Rattle.automaton.specs.Form.{HasRoom}
use Rattle.automaton.specs.declared.Form.{Form}
use Rattle.automaton.specs.declared.Form.TheVariants.{Narrow, Wide, Isolating}
use Rattle.automaton.specs.Encode.{encode}
use Rattle.automaton.specs.Check.{place_ok, key_word, ascends_at, check_of}
use Rattle.automaton.proofs.Parts.{below_or, tab_same, tab_is}
use Rattle.automaton.proofs.Passes.{Counted, Placed, passing}
use Rattle.automaton.proofs.Encoded.{Fits, no_rules_wide, room_without, encode_length, symbol_count_lem, state_count_lem, tag_count_lem, rule_count_lem, symbols_place, states_place, rules_place, total_place, form_place, symbol_byte_lem, final_back, tags_back, few_places, place_child, place_none, rule_symbol_word, rule_target_word, rule_place_word, forget_back}

one_bit : (b : Bool) → eqb (cond b 1 0) 1 ≡ b
one_bit true = refl
one_bit false = refl

at_most_one : (b : Bool) → cond b 1 0 ≤ 1
at_most_one true = omega arith
at_most_one false = omega arith

ascending_at : (rs : List Rule) → Ascending rs → (i : ℕ) → suc i < length rs → T (before? (get_or rs i no_rule) (get_or rs (suc i) no_rule))
ascending_at [] h i l = absurd (omega arith)
ascending_at (r ∷ []) h i l = absurd (omega arith)
ascending_at (r ∷ s ∷ rs) h zero l = h.0
ascending_at (r ∷ s ∷ rs) h (suc i) l = ascending_at (s ∷ rs) h.1 i (omega arith)

module _ (F : Form) (A : Automaton) (h : Sound A) (fits : Fits F A) where
  arities_back : arities_of (encode F A) ≡ A.arities
  arities_back = tab_is 0 A.arities (symbol_count (encode F A)) (symbol_byte (encode F A)) (symbol_count_lem F A h fits) (symbol_byte_lem F A h fits)

  state_back : (q : ℕ) → q < length A.states → state_of (encode F A) q ≡ state_at A q
  state_back q l =
      let final : eqb (final_byte (encode F A) q) 1 ≡ (state_at A q).final = ap (λ (x : ℕ). eqb x 1) (final_back F A h fits q l) ∙ one_bit (state_at A q).final in
      λ i. record { final = final i; mask = tags_back F A h fits q l i }

  as_many : (i : ℕ) → i < length A.rules → length (rule_at A i).children ≡ arity_of A (rule_at A i).symbol
  as_many i l = h.wellformed.as_many (rule_at A i) (in_get_d no_rule A.rules i l)

  rule_back : (i : ℕ) → i < length A.rules → rule_of (encode F A) i ≡ rule_at A i
  rule_back i l =
      let n : get_or (arities_of (encode F A)) (rule_word (encode F A) i 0) 0 ≡ length (rule_at A i).children =
      ap (λ (as' : List ℕ). get_or as' (rule_word (encode F A) i 0) 0) arities_back ∙ ap (λ (f : ℕ). arity_of A f) (rule_symbol_word F A h fits i l) ∙ sym (as_many i l) in
      let kids : tab (get_or (arities_of (encode F A)) (rule_word (encode F A) i 0) 0) (place_word (encode F A) i) ≡ (rule_at A i).children =
      tab_is unused (rule_at A i).children _ (place_word (encode F A) i) n (λ k m. let z = few_places A h i l in rule_place_word F A h fits i l k (omega arith)) in
      λ j. record { symbol = rule_symbol_word F A h fits i l j; children = kids j; target = rule_target_word F A h fits i l j; forget = forget_back F A h fits i l j }

  back : decode (encode F A) ≡ A
  unfolding decode
  back =
      let states : tab (state_count (encode F A)) (state_of (encode F A)) ≡ A.states = tab_is no_state A.states (state_count (encode F A)) (state_of (encode F A)) (state_count_lem F A h fits) state_back in
      let rules : tab (rule_count (encode F A)) (rule_of (encode F A)) ≡ A.rules = tab_is no_rule A.rules (rule_count (encode F A)) (rule_of (encode F A)) (rule_count_lem F A h fits) rule_back in
      λ i. record { arities = arities_back i; states = states i; tags = tag_count_lem F A h fits i; rules = rules i }

  counted : Counted (encode F A)
  counted = record {
    some_symbol = rw (symbol_count_lem F A h fits) h.some_symbol;
    few_symbols = rw (symbol_count_lem F A h fits) h.few_symbols;
    some_state = rw (state_count_lem F A h fits) h.some_state;
    few_states = rw (state_count_lem F A h fits) h.few_states;
    few_tags = rw (tag_count_lem F A h fits) h.few_tags;
    few_rules = rw (rule_count_lem F A h fits) h.few_rules;
  }

  placed : Placed (encode F A)
  placed = record {
    symbols_at_lem = symbols_place F A h fits;
    states_at_lem = rw (symbol_count_lem F A h fits) (states_place F A h fits);
    rules_at_lem = rw (symbol_count_lem F A h fits, state_count_lem F A h fits, form_place F A h fits) (rules_place F A h fits);
    total = rw (symbol_count_lem F A h fits, state_count_lem F A h fits, rule_count_lem F A h fits, form_place F A h fits) (total_place F A h fits);
    whole = rw (symbol_count_lem F A h fits, state_count_lem F A h fits, rule_count_lem F A h fits, form_place F A h fits) (encode_length F A);
    bits = rw (tag_count_lem F A h fits, form_place F A h fits) fits.room.bits;
  }

  module _ (i : ℕ) (l : i < length A.rules) where
    known : (rule_at A i).symbol < length A.arities
    known = h.wellformed.symbols (rule_at A i) (in_get_d no_rule A.rules i l)

    places_pass : (k : ℕ) → k < max_children → place_ok (encode F A) i k ≡ true
    unfolding place_ok
    places_pass k m =
        let n : symbol_byte (encode F A) (rule_word (encode F A) i 0) ≡ length (rule_at A i).children =
        ap (symbol_byte (encode F A)) (rule_symbol_word F A h fits i l) ∙ symbol_byte_lem F A h fits (rule_at A i).symbol known ∙ sym (as_many i l) in
        ⊎_elim
        (λ lk. rw (n, lt-ltb k _ lk, rule_place_word F A h fits i l k m, state_count_lem F A h fits) (lt-ltb _ _ (place_child A h i l k lk)))
        (λ lk. rw (n, le-ltb k _ lk, rule_place_word F A h fits i l k m) (eq-eqb _ _ (place_none A h i l k lk)))
        (below_or k (length (rule_at A i).children))

    key_back : tab (max_children + 2) (key_word (encode F A) i) ≡ key (rule_at A i)
    unfolding key_word
    key_back =
        let places : tab max_children (place_word (encode F A) i) ≡ tab max_children (place (rule_at A i)) = tab_same max_children (place_word (encode F A) i) (place (rule_at A i)) (rule_place_word F A h fits i l) in
        ap (λ (ps : List ℕ). rule_word (encode F A) i 0 ∷ ps ++ rule_word (encode F A) i 1 ∷ []) places
        ∙ ap (λ (f : ℕ). f ∷ tab max_children (place (rule_at A i)) ++ rule_word (encode F A) i 1 ∷ []) (rule_symbol_word F A h fits i l)
        ∙ ap (λ (t : ℕ). (rule_at A i).symbol ∷ tab max_children (place (rule_at A i)) ++ t ∷ []) (rule_target_word F A h fits i l)

  ascends : (i : ℕ) → suc i < length A.rules → ascends_at (encode F A) i ≡ true
  unfolding ascends_at
  ascends i l =
      ap (λ (n : ℕ). lower? (tab (max_children + 2) (key_word (encode F A) i)) (tab (max_children + 2) (key_word (encode F A) n))) (add-one i)
      ∙ ap (λ (a : List ℕ). lower? a (tab (max_children + 2) (key_word (encode F A) (suc i)))) (key_back i (omega arith))
      ∙ ap (λ (b : List ℕ). lower? (key (rule_at A i)) b) (key_back (suc i) l)
      ∙ (T_true (before? (rule_at A i) (rule_at A (suc i)))).0 (ascending_at A.rules h.ascending i l)

  passes_check : check_of (encode F A) ≡ 0
  passes_check =
      let S = symbol_count_lem F A h fits in let Q = state_count_lem F A h fits in let R = rule_count_lem F A h fits in let n = encode_length F A in
      passing (encode F A) (record {
        header = omega arith;
        counts = counted;
        offsets = placed;
        symbols = λ i l. rw (symbol_byte_lem F A h fits i (omega arith)) (h.few_children i);
        states = λ q l. (rw (final_back F A h fits q (omega arith)) (at_most_one (state_at A q).final), rw (tags_back F A h fits q (omega arith), tag_count_lem F A h fits) (h.wellformed.masks q));
        rules = λ i l. (rw (rule_symbol_word F A h fits i (omega arith), S) (known i (omega arith)), rw (rule_target_word F A h fits i (omega arith), Q) (h.wellformed.targets (rule_at A i) (in_get_d no_rule A.rules i (omega arith))));
        places = λ i l. places_pass i (omega arith);
        ascends = λ i l. ascends i (omega arith);
        forgets = λ i l. rw (forget_back F A h fits i (omega arith), tag_count_lem F A h fits) (h.wellformed.forgets (rule_at A i) (in_get_d no_rule A.rules i (omega arith)));
      })

-- what holds of the bytes in each form that a header tells holds of them in every form
module _ (A : Automaton) (P : List ℕ → Type 0) (each : (F : Form) → Fits F A → P (encode F A)) where
  in_every : (F : Form) → HasRoom F A → P (encode F A)
  in_every Narrow room = each Narrow (record { room = room; told = tt })
  in_every Wide room = each Wide (record { room = room; told = tt })
  in_every Isolating room = go A.rules refl
    where
      go : (rs : List Rule) → A.rules ≡ rs → P (encode Isolating A)
      go [] e = subst P (sym (no_rules_wide A e)) (each Wide (record { room = room_without A room e; told = tt }))
      go (r ∷ rs) e = each Isolating (record { room = room; told = rw e (omega arith) })

module _ (F : Form) (A : Automaton) (h : Sound A) (room : HasRoom F A) where
  -- Decoding undoes encoding.
  pub decode_encode : decode (encode F A) ≡ A
  decode_encode = in_every A (λ s. decode s ≡ A) (λ G fits. back G A h fits) F room

  -- The stored form of a sound automaton passes the check.
  pub encode_sound : check_of (encode F A) ≡ 0
  encode_sound = in_every A (λ s. check_of s ≡ 0) (λ G fits. passes_check G A h fits) F room
