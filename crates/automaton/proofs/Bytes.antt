-- Encoding undoes decoding: bytes that pass the check are the stored form of what they stand for. Assumes nothing.
use mathlib.Core.Path.{◌≡◌, refl, sym, ap, ◌∙◌}
use mathlib.Core.Bool.{cond}
use mathlib.Core.List.{List, [], ◌∷◌, ◌++◌}
use Prim.Native.Nat.{ℕ, zero, suc, ◌+◌, ◌*◌, ◌≤◌, ◌<◌}
use native.Mathlib.Nat.{add-zero, mod-eq_of_lt, le_of_eq}
use native.Mathlib.Omega.{arith}
use lib.Dec.{eqb}
use lib.ListN.{length, get_or, take, drop}
use lib.Seq.{take-add, take_all, drop-cons}
use Rattle.model.specs.Limits.{max_children}
use Rattle.model.specs.Lists.{concat_map, tab}
use Rattle.model.specs.Order.{place}
use Rattle.automaton.specs.Form.{header_width, tags_width, state_width, rule_numbers, rule_width, kept_mask, states_offset, rules_offset, total_length}
use Rattle.automaton.specs.Stored.{word, symbol_count, state_count, tag_count, rule_count, symbols_at, rules_at, form_of, state_place, symbol_byte, final_byte, tags_at, tags_of, rule_word, place_word, forget_of, state_of, rule_of, decode}
use Rattle.automaton.specs.Encode.{encode_word, encode_header, encode_symbol, encode_tags, encode_state, mask_numbers, encode_places, encode_rule, encode}
use Rattle.automaton.specs.Check.{check_of}
use Rattle.automaton.specs.declared.Form.{Form}
use Rattle.automaton.specs.declared.Form.TheVariants.{Narrow, Wide, Isolating}
use Rattle.automaton.proofs.Parts.{inside, tab_same, part_tab, concat_tab}
use Rattle.automaton.proofs.Widths.{width_numbers}
use Rattle.automaton.proofs.Words.{bytes_back}
use Rattle.automaton.proofs.Decode.{symbols_are, states_are, rules_are}
use Rattle.automaton.proofs.Passes.{Passes, passes}
use Rattle.automaton.proofs.Sound.{place_is}
use Rattle.automaton.proofs.Encoded.{encode_of, symbol_width, state_width_lem, rule_width_lem}

-- a flag byte is what its state's flag is stored as
flag_back : (x : ℕ) → x ≤ 1 → cond (eqb x 1) 1 0 ≡ x
flag_back zero l = refl
flag_back (suc zero) l = refl
flag_back (suc (suc x)) l = absurd (omega arith)

module _ (s : List ℕ) (bytes : (k : ℕ) → get_or s k 0 < 256) where
  word_part : (q : ℕ) → q + 2 ≤ length s → encode_word (word s q) ≡ take 2 (drop q s)
  unfolding word
  word_part q l =
      bytes_back (get_or s q 0) (get_or s (q + 1) 0) (bytes q) (bytes (q + 1))
      ∙ ap (λ (n : ℕ). get_or s n 0 ∷ get_or s (q + 1) 0 ∷ []) (sym (add-zero q))
      ∙ sym (part_tab 2 q s l)

  words_part : (n q : ℕ) → q + 2 * n ≤ length s → concat_map encode_word (tab n (λ k. word s (q + 2 * k))) ≡ take (2 * n) (drop q s)
  words_part n q l = concat_tab encode_word 2 (λ x. refl) s n (λ k. word s (q + 2 * k)) q (λ i m. word_part (q + 2 * i) (omega arith))

  -- tags as they stand, in either form
  tags_part : (form : Form) (k : ℕ) → k + tags_width form ≤ length s → encode_tags form (tags_at form s k) ≡ take (tags_width form) (drop k s)
  unfolding tags_width tags_at encode_tags
  tags_part Narrow k l =
      ap (λ (x : ℕ). x ∷ []) (mod-eq_of_lt (bytes k) ∙ ap (λ (n : ℕ). get_or s n 0) (sym (add-zero k)))
      ∙ sym (part_tab 1 k s l)
  tags_part Wide k l = word_part k l
  tags_part Isolating k l = word_part k l

  module _ (p : Passes s) where
    abbrev S : ℕ
    S = symbol_count s

    abbrev Q : ℕ
    Q = state_count s

    abbrev R : ℕ
    R = rule_count s

    abbrev F : Form
    F = form_of s

    header_part : encode_header F S Q (tag_count s) R ≡ take header_width s
    unfolding encode_header
    header_part =
        let o = p.offsets in
        let one = o.symbols_at_lem in let two = o.states_at_lem in let three = o.rules_at_lem in let four = o.total in
        let same : S ∷ Q ∷ tag_count s ∷ R ∷ header_width ∷ states_offset S ∷ rules_offset F S Q ∷ total_length F S Q R ∷ [] ≡ tab 8 (λ k. word s (0 + 2 * k)) = cc in
        ap (λ (ws : List ℕ). concat_map encode_word ws) same ∙ words_part 8 0 p.header

    symbol_part : (i : ℕ) → i < S → encode_symbol (symbol_byte s i) ≡ take 1 (drop (header_width + 1 * i) s)
    unfolding encode_symbol symbol_byte
    symbol_part i l =
        let e : symbols_at s + i ≡ header_width + 1 * i + 0 = omega (arith, p.offsets.symbols_at_lem) in
        let small = bytes (symbols_at s + i) in
        ap (λ (x : ℕ). x ∷ []) (mod-eq_of_lt small ∙ ap (λ (n : ℕ). get_or s n 0) e)
        ∙ sym (part_tab 1 (header_width + 1 * i) s (omega (arith, p.offsets.whole)))

    state_part : (q : ℕ) → q < Q → encode_of F (state_of s q) ≡ take (state_width F) (drop (states_offset S + state_width F * q) s)
    unfolding encode_state final_byte tags_of state_width
    state_part q l =
        let o = states_offset S + state_width F * q in
        let e : state_place s q ≡ o = omega (arith, p.offsets.states_at_lem) in
        let e' : state_place s q + 1 ≡ suc o = omega arith in
        let room : o + state_width F ≤ length s = omega (arith, p.offsets.whole, inside (state_width F) q Q l) in
        let flag : cond (eqb (final_byte s q) 1) 1 0 ≡ get_or s o 0 = flag_back (final_byte s q) (p.states q l).0 ∙ ap (λ (n : ℕ). get_or s n 0) e in
        let tags : encode_tags F (tags_of s q) ≡ take (tags_width F) (drop (suc o) s) = tags_part F (state_place s q + 1) (omega arith) ∙ ap (λ (n : ℕ). take (tags_width F) (drop n s)) e' in
        let both : cond (eqb (final_byte s q) 1) 1 0 ∷ encode_tags F (tags_of s q) ≡ get_or s o 0 ∷ take (tags_width F) (drop (suc o) s) = cc in
        let wide : suc (tags_width F) ≡ state_width F = omega arith in
        both ∙ sym (ap (λ (r : List ℕ). take (suc (tags_width F)) r) (drop-cons s o 0 (omega arith))) ∙ ap (λ (n : ℕ). take n (drop o s)) wide

    -- the numbers of a rule are those that its form has
    rule_numbers_lem : (form : Form) (f : ℕ → ℕ) → tab (max_children + 2) f ++ mask_numbers form (kept_mask form (f (max_children + 2))) ≡ tab (rule_numbers form) f
    unfolding mask_numbers kept_mask rule_numbers
    rule_numbers_lem Narrow f = refl
    rule_numbers_lem Wide f = refl
    rule_numbers_lem Isolating f = refl

    rule_part : (i : ℕ) → i < R → encode_rule F (rule_of s i) ≡ take (rule_width F) (drop (rules_offset F S Q + rule_width F * i) s)
    unfolding encode_places rule_word forget_of
    rule_part i l =
        let w = width_numbers F in
        ap (λ (ps : List ℕ). concat_map encode_word (rule_word s i 0 ∷ rule_word s i 1 ∷ ps ++ mask_numbers F (forget_of s i))) (tab_same max_children (place (rule_of s i)) (place_word s i) (place_is s p i l))
        ∙ ap (concat_map encode_word) (rule_numbers_lem F (rule_word s i))
        ∙ words_part (rule_numbers F) (rules_at s + rule_width F * i) (omega (arith, p.offsets.whole, p.offsets.rules_at_lem, inside (rule_width F) i R l))
        ∙ ap (λ (n : ℕ). take n (drop (rules_at s + rule_width F * i) s)) (sym w)
        ∙ ap (λ (n : ℕ). take (rule_width F) (drop (n + rule_width F * i) s)) p.offsets.rules_at_lem

    symbols_part : concat_map encode_symbol (tab S (symbol_byte s)) ≡ take (1 * S) (drop header_width s)
    symbols_part = concat_tab encode_symbol 1 symbol_width s S (symbol_byte s) header_width symbol_part

    states_part : concat_map (encode_of F) (tab Q (state_of s)) ≡ take (state_width F * Q) (drop (states_offset S) s)
    states_part = concat_tab (encode_of F) (state_width F) (state_width_lem F) s Q (state_of s) (states_offset S) state_part

    rules_part : concat_map (encode_rule F) (tab R (rule_of s)) ≡ take (rule_width F * R) (drop (rules_offset F S Q) s)
    rules_part = concat_tab (encode_rule F) (rule_width F) (rule_width_lem F) s R (rule_of s) (rules_offset F S Q) rule_part

    parts : take header_width s ++ take (1 * S) (drop header_width s) ++ take (state_width F * Q) (drop (states_offset S) s) ++ take (rule_width F * R) (drop (rules_offset F S Q) s) ≡ s
    parts =
        let e : header_width + 1 * S ≡ states_offset S = omega arith in
        let one : take header_width s ++ take (1 * S) (drop header_width s) ≡ take (states_offset S) s = sym (take-add header_width (1 * S) s) ∙ ap (λ (n : ℕ). take n s) e in
        ap (λ (l : List ℕ). l ++ take (state_width F * Q) (drop (states_offset S) s) ++ take (rule_width F * R) (drop (rules_offset F S Q) s)) one
        ∙ ap (λ (l : List ℕ). l ++ take (rule_width F * R) (drop (rules_offset F S Q) s)) (sym (take-add (states_offset S) (state_width F * Q) s))
        ∙ sym (take-add (rules_offset F S Q) (rule_width F * R) s)
        ∙ take_all (total_length F S Q R) s (le_of_eq p.offsets.whole)

    back : encode_header F S Q (tag_count s) R ++ concat_map encode_symbol (tab S (symbol_byte s)) ++ concat_map (encode_of F) (tab Q (state_of s)) ++ concat_map (encode_rule F) (tab R (rule_of s)) ≡ s
    back = rw (header_part, symbols_part, states_part, rules_part) parts

-- Encoding in the form that the bytes are in undoes decoding.
pub encode_decode : (s : List ℕ) → check_of s ≡ 0 → ((k : ℕ) → get_or s k 0 < 256) → encode (form_of s) (decode s) ≡ s
unfolding encode decode
encode_decode s h bytes = rw (symbols_are s, states_are s, rules_are s) (back s bytes (passes s h))
