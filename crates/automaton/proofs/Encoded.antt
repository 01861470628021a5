-- What stands where in a stored form of a sound automaton. Assumes nothing.
use mathlib.Core.Path.{◌≡◌, refl, sym, ap, ◌∙◌, subst}
use mathlib.Core.Bool.{cond}
use mathlib.Core.Logic.{⊎_elim}
use mathlib.Core.List.Memᴰ.{not-nil}
use mathlib.Core.List.{List, [], ◌∷◌, ◌++◌, append_assoc, Memᴰ as In}
use Prim.Native.Nat.{ℕ, zero, suc, ◌+◌, ◌*◌, ◌/◌, ◌%◌, ◌^◌, ◌≤◌, ◌<◌}
use native.Mathlib.Nat.{mod-eq_of_lt, add-zero, add_assoc, add_comm, lt_of_lt_of_le}
use native.Mathlib.Numerals.{add-one, add-two}
use native.Mathlib.Omega.{arith}
use lib.ListN.{length, get_or, length-append, get_or-append, get_or-eq_default}
use lib.Pow.{pow_mono}
use lib.Seq.{get_or-append-add}
use Rattle.model.specs.Limits.{max_children, unused}
use Rattle.model.specs.Lists.{concat_map, tab}
use Rattle.model.specs.Automaton.{Rule, State, Automaton, ForgetsNothing, no_state, arity_of, state_at}
use Rattle.model.specs.Order.{place}
use Rattle.model.specs.Sound.{Sound}
use Rattle.model.specs.Written.{no_rule, rule_at}
use Rattle.model.proofs.Rows.{in_get_d}
use Rattle.model.proofs.Tab.{tab_at}
use Rattle.automaton.specs.Form.{header_width, tags_width, state_width, rule_numbers, rule_width, tag_bits, kept_mask, HasRoom, states_offset, rules_offset}
use Rattle.automaton.specs.declared.Form.{Form}
use Rattle.automaton.specs.declared.Form.TheVariants.{Narrow, Wide, Isolating}
use Rattle.automaton.specs.Stored.{word, symbol_count, state_count, tag_count, rule_count, symbols_at, states_at, rules_at, stated_total, form_of, symbol_byte, state_place, final_byte, tags_at, tags_of, rule_word, place_word, forget_of}
use Rattle.automaton.specs.Encode.{encode_header, encode_symbol, encode_tags, encode_state, mask_numbers, encode_places, encode_rule, encode, encoded_length}
use Rattle.automaton.proofs.Parts.{below_or, inside, length_concat, concat_at}
use Rattle.automaton.proofs.Widths.{width_some, width_tags, width_numbers, numbers_least, numbers_most, states_most, rules_most, Told, form_told, tags_read}
use Rattle.automaton.proofs.Put.{state_length}
use Rattle.automaton.proofs.Words.{length_words, low_at, high_at, word_back}

abbrev pub header : Form → Automaton → List ℕ
header F A = encode_header F (length A.arities) (length A.states) A.tags (length A.rules)

abbrev pub encode_of : Form → State → List ℕ
encode_of F q = encode_state F q.final q.mask

header_width_lem : (F : Form) (A : Automaton) → length (header F A) ≡ header_width
unfolding encode_header
header_width_lem F A = refl

pub symbol_width : (a : ℕ) → length (encode_symbol a) ≡ 1
unfolding encode_symbol
symbol_width a = refl

pub state_width_lem : (F : Form) (q : State) → length (encode_of F q) ≡ state_width F
state_width_lem F q = state_length F q.final q.mask

-- the numbers of a rule
abbrev numbers : Form → Rule → List ℕ
numbers F r = r.symbol ∷ r.target ∷ tab max_children (place r) ++ mask_numbers F r.forget

numbers_length : (F : Form) (r : Rule) → length (numbers F r) ≡ rule_numbers F
unfolding rule_numbers mask_numbers
numbers_length Narrow r = refl
numbers_length Wide r = refl
numbers_length Isolating r = refl

pub rule_width_lem : (F : Form) (r : Rule) → length (encode_rule F r) ≡ rule_width F
unfolding encode_places rule_width
rule_width_lem F r = length_words (numbers F r) ∙ ap (λ (n : ℕ). 2 * n) (numbers_length F r)

-- what a form keeps of a mask, read back from a number x that is the mask where there is a place for it
mask_read : (F : Form) (x mask : ℕ) → kept_mask F mask ≡ mask → (max_children + 2 < rule_numbers F → x ≡ mask) → kept_mask F x ≡ mask
unfolding kept_mask rule_numbers
mask_read Narrow x mask e h = e
mask_read Wide x mask e h = e
mask_read Isolating x mask e h = h (omega arith)

module _ (F : Form) (A : Automaton) where
  symbols_end : length (header F A ++ concat_map encode_symbol A.arities) ≡ states_offset (length A.arities)
  symbols_end =
      let h = header_width_lem F A in let l = length_concat encode_symbol 1 symbol_width A.arities in
      let a = length-append (header F A) (concat_map encode_symbol A.arities) in omega arith

  states_end : length (header F A ++ concat_map encode_symbol A.arities ++ concat_map (encode_of F) A.states) ≡ rules_offset F (length A.arities) (length A.states)
  states_end =
      let h = symbols_end in let l = length_concat (encode_of F) (state_width F) (state_width_lem F) A.states in
      let a = length-append (header F A ++ concat_map encode_symbol A.arities) (concat_map (encode_of F) A.states) in omega arith

  -- The stored form has the length that the header states.
  pub encode_length : length (encode F A) ≡ encoded_length F A
  unfolding encode
  encode_length =
      let h = states_end in let l = length_concat (encode_rule F) (rule_width F) (rule_width_lem F) A.rules in
      let a = length-append (header F A ++ concat_map encode_symbol A.arities ++ concat_map (encode_of F) A.states) (concat_map (encode_rule F) A.rules) in omega arith

  -- the stored form, part after part
  pub encode_parts : encode F A ≡ header F A ++ (concat_map encode_symbol A.arities ++ (concat_map (encode_of F) A.states ++ concat_map (encode_rule F) A.rules))
  unfolding encode
  encode_parts =
      append_assoc (header F A ++ concat_map encode_symbol A.arities) (concat_map (encode_of F) A.states) (concat_map (encode_rule F) A.rules)
      ∙ append_assoc (header F A) (concat_map encode_symbol A.arities) (concat_map (encode_of F) A.states ++ concat_map (encode_rule F) A.rules)

  -- the byte of a symbol, a byte of a state, a byte of a rule, wherever the tables begin
  symbol_at : (i : ℕ) → i < length A.arities → get_or (encode F A) (header_width + i) 0 ≡ get_or A.arities i 0 % 256
  unfolding encode encode_symbol
  symbol_at i l =
      let e = symbols_end in let e' = states_end in let h = header_width_lem F A in
      let one : header_width + i ≡ length (header F A) + (1 * i + 0) = omega arith in
      get_or-append (header F A ++ concat_map encode_symbol A.arities ++ concat_map (encode_of F) A.states) (concat_map (encode_rule F) A.rules) 0 (header_width + i) (omega arith)
      ∙ get_or-append (header F A ++ concat_map encode_symbol A.arities) (concat_map (encode_of F) A.states) 0 (header_width + i) (omega arith)
      ∙ ap (λ (n : ℕ). get_or (header F A ++ concat_map encode_symbol A.arities) n 0) one
      ∙ get_or-append-add (header F A) (concat_map encode_symbol A.arities) (1 * i + 0) 0
      ∙ concat_at encode_symbol 1 symbol_width 0 A.arities i 0 l (omega arith)

  state_at_lem : (q b : ℕ) → q < length A.states → b < state_width F → get_or (encode F A) (states_offset (length A.arities) + (state_width F * q + b)) 0 ≡ get_or (encode_of F (state_at A q)) b 0
  unfolding encode
  state_at_lem q b l m =
      let e = symbols_end in let e' = states_end in let i = inside (state_width F) q (length A.states) l in
      get_or-append (header F A ++ concat_map encode_symbol A.arities ++ concat_map (encode_of F) A.states) (concat_map (encode_rule F) A.rules) 0 (states_offset (length A.arities) + (state_width F * q + b)) (omega arith)
      ∙ ap (λ (n : ℕ). get_or (header F A ++ concat_map encode_symbol A.arities ++ concat_map (encode_of F) A.states) (n + (state_width F * q + b)) 0) (sym e)
      ∙ get_or-append-add (header F A ++ concat_map encode_symbol A.arities) (concat_map (encode_of F) A.states) (state_width F * q + b) 0
      ∙ concat_at (encode_of F) (state_width F) (state_width_lem F) no_state A.states q b l m

  rule_at_lem : (i b : ℕ) → i < length A.rules → b < rule_width F → get_or (encode F A) (rules_offset F (length A.arities) (length A.states) + (rule_width F * i + b)) 0 ≡ get_or (encode_rule F (rule_at A i)) b 0
  unfolding encode
  rule_at_lem i b l m =
      let e' = states_end in
      ap (λ (n : ℕ). get_or (header F A ++ concat_map encode_symbol A.arities ++ concat_map (encode_of F) A.states ++ concat_map (encode_rule F) A.rules) (n + (rule_width F * i + b)) 0) (sym e')
      ∙ get_or-append-add (header F A ++ concat_map encode_symbol A.arities ++ concat_map (encode_of F) A.states) (concat_map (encode_rule F) A.rules) (rule_width F * i + b) 0
      ∙ concat_at (encode_rule F) (rule_width F) (rule_width_lem F) no_rule A.rules i b l m

-- A form with 16 bits has room for every sound automaton whose masks it keeps.
pub wide_room : (A : Automaton) → Sound A → ForgetsNothing A → HasRoom Wide A
unfolding tags_width kept_mask
wide_room A h none = record { bits = h.few_tags; masks = λ r m. sym (none r m) }

pub isolating_room : (A : Automaton) → Sound A → HasRoom Isolating A
unfolding tags_width kept_mask
isolating_room A h = record { bits = h.few_tags; masks = λ r m. refl }

-- without rules the two wide forms have the same bytes
pub no_rules_wide : (A : Automaton) → A.rules ≡ [] → encode Isolating A ≡ encode Wide A
unfolding encode encode_header encode_state encode_tags state_width tags_width rule_width rule_numbers
no_rules_wide A e = rw e

pub room_without : (A : Automaton) → HasRoom Isolating A → A.rules ≡ [] → HasRoom Wide A
unfolding tags_width
room_without A room e = record { bits = room.bits; masks = λ r m. absurd (not-nil (subst (In r) e m)) }

-- what reading a form back needs: room, and that the header tells the form
pub record Fits (F : Form) (A : Automaton) : Type 0 where
  pub room : HasRoom F A
  pub told : Told F (length A.rules)

-- the numbers of a rule, in every form
module _ (A : Automaton) (h : Sound A) (i : ℕ) (l : i < length A.rules) where
  listed : In (rule_at A i) A.rules
  listed = in_get_d no_rule A.rules i l

  pub few_places : length (rule_at A i).children ≤ max_children
  few_places = rw (h.wellformed.as_many (rule_at A i) listed) (h.few_children (rule_at A i).symbol)

  pub place_child : (k : ℕ) → k < length (rule_at A i).children → place (rule_at A i) k < length A.states
  place_child k m = h.wellformed.children (rule_at A i) listed (place (rule_at A i) k) (in_get_d unused (rule_at A i).children k m)

  pub place_none : (k : ℕ) → length (rule_at A i).children ≤ k → place (rule_at A i) k ≡ unused
  place_none k m = get_or-eq_default (rule_at A i).children unused m

  place_small : (k : ℕ) → place (rule_at A i) k < 65536
  place_small k =
      ⊎_elim (λ m. let z = place_child k m in let y = h.few_states in omega arith) (λ m. rw (place_none k m) (omega arith))
      (below_or k (length (rule_at A i).children))

  abbrev six : List ℕ
  six = (rule_at A i).symbol ∷ (rule_at A i).target ∷ tab max_children (place (rule_at A i))

  six_small : (k : ℕ) → k < max_children + 2 → get_or six k 0 < 65536
  six_small zero m = let z = h.wellformed.symbols (rule_at A i) listed in let y = h.few_symbols in omega arith
  six_small (suc zero) m = let z = h.wellformed.targets (rule_at A i) listed in let y = h.few_states in omega arith
  six_small (suc (suc k)) m = rw (tab_at 0 max_children (place (rule_at A i)) k (omega arith)) (place_small k)

  forget_small : (rule_at A i).forget < 65536
  forget_small = lt_of_lt_of_le (h.wellformed.forgets (rule_at A i) listed) (pow_mono h.few_tags)

  -- the first six, and in the last form the mask
  number_six : (F : Form) (k : ℕ) → k < max_children + 2 → get_or (numbers F (rule_at A i)) k 0 ≡ get_or six k 0
  number_six F k m = get_or-append six (mask_numbers F (rule_at A i).forget) 0 k m

  number_mask : (F : Form) → max_children + 2 < rule_numbers F → get_or (numbers F (rule_at A i)) (max_children + 2) 0 ≡ (rule_at A i).forget
  unfolding rule_numbers mask_numbers
  number_mask Narrow m = absurd (omega arith)
  number_mask Wide m = absurd (omega arith)
  number_mask Isolating m = refl

  numbers_small : (F : Form) (k : ℕ) → k < rule_numbers F → get_or (numbers F (rule_at A i)) k 0 < 65536
  numbers_small F k m =
      ⊎_elim
      (λ l. rw (number_six F k l) (six_small k l))
      (λ l. let e : k ≡ max_children + 2 = (let n = numbers_most F in omega arith) in rw (e, number_mask F (omega arith)) forget_small)
      (below_or k (max_children + 2))

module _ (F : Form) (A : Automaton) (h : Sound A) (fits : Fits F A) where
  -- the header's eight numbers
  pub symbol_count_lem : symbol_count (encode F A) ≡ length A.arities
  unfolding word encode encode_header
  symbol_count_lem = let z = h.few_symbols in word_back (length A.arities) (omega arith)

  pub state_count_lem : state_count (encode F A) ≡ length A.states
  unfolding word encode encode_header
  state_count_lem = let z = h.few_states in word_back (length A.states) (omega arith)

  pub tag_count_lem : tag_count (encode F A) ≡ A.tags
  unfolding word encode encode_header
  tag_count_lem = let z = h.few_tags in word_back A.tags (omega arith)

  pub rule_count_lem : rule_count (encode F A) ≡ length A.rules
  unfolding word encode encode_header
  rule_count_lem = let z = h.few_rules in word_back (length A.rules) (omega arith)

  pub symbols_place : symbols_at (encode F A) ≡ header_width
  unfolding word encode encode_header
  symbols_place = refl

  pub states_place : states_at (encode F A) ≡ states_offset (length A.arities)
  unfolding word encode encode_header
  states_place = let z = h.few_symbols in word_back (states_offset (length A.arities)) (omega arith)

  pub rules_place : rules_at (encode F A) ≡ rules_offset F (length A.arities) (length A.states)
  unfolding word encode encode_header
  rules_place = let z = h.few_symbols in let y = h.few_states in let w = states_most F (length A.states) in word_back (rules_offset F (length A.arities) (length A.states)) (omega arith)

  pub total_place : stated_total (encode F A) ≡ encoded_length F A
  unfolding word encode encode_header
  total_place = let z = h.few_symbols in let y = h.few_states in let x = h.few_rules in let w = states_most F (length A.states) in let v = rules_most F (length A.rules) in word_back (encoded_length F A) (omega arith)

  -- The form that the header tells is the one that was asked for.
  pub form_place : form_of (encode F A) ≡ F
  unfolding form_of
  form_place = form_told F (length A.arities) (length A.states) (length A.rules) _ _ _ _ _ h.some_state fits.told state_count_lem states_place rules_place rule_count_lem total_place

  -- symbols and states
  pub symbol_byte_lem : (i : ℕ) → i < length A.arities → symbol_byte (encode F A) i ≡ arity_of A i
  unfolding symbol_byte
  symbol_byte_lem i l = let z = h.few_children i in rw symbols_place (symbol_at F A i l ∙ mod-eq_of_lt (omega arith))

  state_byte : (q b : ℕ) → q < length A.states → b < state_width F → get_or (encode F A) (state_place (encode F A) q + b) 0 ≡ get_or (encode_of F (state_at A q)) b 0
  state_byte q b l m = rw (form_place, states_place, add_assoc) (state_at_lem F A q b l m)

  mask_small : (q : ℕ) → (state_at A q).mask < 2 ^ tag_bits F
  mask_small q = lt_of_lt_of_le (h.wellformed.masks q) (pow_mono fits.room.bits)

  pub final_back : (q : ℕ) → q < length A.states → final_byte (encode F A) q ≡ cond (state_at A q).final 1 0
  unfolding final_byte encode_state
  final_back q l = ap (λ (k : ℕ). get_or (encode F A) k 0) (sym (add-zero _)) ∙ state_byte q 0 l (width_some F)

  pub tags_back : (q : ℕ) → q < length A.states → tags_of (encode F A) q ≡ (state_at A q).mask
  unfolding tags_of encode_state
  tags_back q l =
      ap (λ (form : Form). tags_at form (encode F A) (state_place (encode F A) q + 1)) form_place
      ∙ tags_read F (encode F A) (state_place (encode F A) q + 1) (state_at A q).mask (mask_small q)
      (λ b m. ap (λ (k : ℕ). get_or (encode F A) k 0) (add_assoc (state_place (encode F A) q) 1 b) ∙ state_byte q (1 + b) l (width_tags F b m) ∙ ap (λ (k : ℕ). get_or (encode_of F (state_at A q)) k 0) (add_comm 1 b ∙ add-one b))

  -- rules
  module _ (i : ℕ) (l : i < length A.rules) where
    rule_word_lem : (k : ℕ) → k < rule_numbers F → rule_word (encode F A) i k ≡ get_or (numbers F (rule_at A i)) k 0
    unfolding rule_word word encode_places
    rule_word_lem k m =
        let ns = numbers F (rule_at A i) in
        let n : k < length ns = rw (numbers_length F (rule_at A i)) m in
        let w = width_numbers F in
        let o = rules_offset F (length A.arities) (length A.states) in
        let e : rules_at (encode F A) + rule_width (form_of (encode F A)) * i + 2 * k ≡ o + (rule_width F * i + 2 * k) = rw form_place (omega (arith, rules_place)) in
        let e' : o + (rule_width F * i + 2 * k) + 1 ≡ o + (rule_width F * i + (2 * k + 1)) = omega arith in
        let low : get_or (encode F A) (o + (rule_width F * i + 2 * k)) 0 ≡ get_or ns k 0 % 256 = rule_at_lem F A i (2 * k) l (omega arith) ∙ low_at ns k n in
        let high : get_or (encode F A) (o + (rule_width F * i + (2 * k + 1))) 0 ≡ get_or ns k 0 / 256 % 256 = rule_at_lem F A i (2 * k + 1) l (omega arith) ∙ high_at ns k n in
        rw (e, e', low, high) (word_back (get_or ns k 0) (numbers_small A h i l F k m))

    rule_six : (k : ℕ) → k < max_children + 2 → rule_word (encode F A) i k ≡ get_or (six A h i l) k 0
    rule_six k m = rule_word_lem k (let n = numbers_least F in omega arith) ∙ number_six A h i l F k m

    pub rule_symbol_word : rule_word (encode F A) i 0 ≡ (rule_at A i).symbol
    rule_symbol_word = rule_six 0 (omega arith)

    pub rule_target_word : rule_word (encode F A) i 1 ≡ (rule_at A i).target
    rule_target_word = rule_six 1 (omega arith)

    pub rule_place_word : (k : ℕ) → k < max_children → place_word (encode F A) i k ≡ place (rule_at A i) k
    rule_place_word k m = rw add-two (rule_six (suc (suc k)) (omega arith) ∙ tab_at 0 max_children (place (rule_at A i)) k m)

    pub forget_back : forget_of (encode F A) i ≡ (rule_at A i).forget
    unfolding forget_of
    forget_back =
        ap (λ (form : Form). kept_mask form (rule_word (encode F A) i (max_children + 2))) form_place
        ∙ mask_read F (rule_word (encode F A) i (max_children + 2)) (rule_at A i).forget (fits.room.masks (rule_at A i) (listed A h i l)) (λ m. rule_word_lem (max_children + 2) m ∙ number_mask A h i l F m)
