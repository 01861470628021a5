-- Numbers as bytes: what stands where in a list of encoded words, a word read back, and the number at a place. Assumes nothing.
use mathlib.Core.Path.{◌≡◌, refl, sym, ap, ◌∙◌}
use mathlib.Core.List.{List, [], ◌∷◌, ◌++◌, map, append-nil}
use Prim.Native.Nat.{ℕ, zero, suc, ◌+◌, ◌*◌, ◌/◌, ◌%◌, ◌≤◌, ◌<◌}
use native.Mathlib.Nat.{zero-add, mod-eq_of_lt, div-eq_of_lt, add-mul-mod_self_left, add-mul-div_left}
use native.Mathlib.Omega.{arith}
use lib.ListN.{length, get_or, take, length-append, get_or-eq_default}
use lib.Seq.{take_at, take_all}
use Rattle.model.specs.Limits.{max_children}
use Rattle.model.specs.Lists.{concat_map, tab}
use Rattle.model.proofs.Tab.{length_tab}
use Rattle.automaton.proofs.Parts.{tab_map}
use Rattle.automaton.specs.Form.{header_width, rule_numbers, states_offset, rules_offset, total_length}
use Rattle.automaton.specs.declared.Form.{Form}
use Rattle.automaton.specs.declared.Form.TheVariants.{Narrow, Wide, Isolating}
use Rattle.automaton.specs.Stored.{word}
use Rattle.automaton.specs.Number.{NumberAt}
use Rattle.automaton.specs.Encode.{encode_word, encode_header, mask_numbers, encode_places}

pub length_words : (ws : List ℕ) → length (concat_map encode_word ws) ≡ 2 * length ws
length_words [] = refl
length_words (w ∷ ws) = let e = length_words ws in omega arith

pub low_at : (ws : List ℕ) (i : ℕ) → i < length ws → get_or (concat_map encode_word ws) (2 * i) 0 ≡ get_or ws i 0 % 256
low_at [] i l = absurd (omega arith)
low_at (w ∷ ws) zero l = refl
low_at (w ∷ ws) (suc i) l = let e : 2 * suc i ≡ suc (suc (2 * i)) = omega arith in rw e (low_at ws i (omega arith))

pub high_at : (ws : List ℕ) (i : ℕ) → i < length ws → get_or (concat_map encode_word ws) (2 * i + 1) 0 ≡ get_or ws i 0 / 256 % 256
high_at [] i l = absurd (omega arith)
high_at (w ∷ ws) zero l = refl
high_at (w ∷ ws) (suc i) l = let e : 2 * suc i + 1 ≡ suc (suc (2 * i + 1)) = omega arith in rw e (high_at ws i (omega arith))

-- what is cut to 16 bits is the same word
pub low_cut : (x : ℕ) → x % 65536 % 256 ≡ x % 256
low_cut x = omega arith

high_cut : (x : ℕ) → x % 65536 / 256 % 256 ≡ x / 256 % 256
high_cut x = omega arith

pub word_cut : (x y : ℕ) → x ≡ y % 65536 → encode_word x ≡ encode_word y
word_cut x y e = cc (e, low_cut y, high_cut y)

-- the words of a header, the offsets a, b and the total c cut to 16 bits
pub header_words : (form : Form) (S Q T R a b c x y z : ℕ) → x ≡ states_offset S → y ≡ rules_offset form S Q → z ≡ total_length form S Q R → a ≡ x % 65536 → b ≡ y % 65536 → c ≡ z % 65536 → concat_map encode_word (S ∷ Q ∷ T ∷ R ∷ header_width ∷ a ∷ b ∷ c ∷ []) ≡ encode_header form S Q T R
unfolding encode_header
header_words form S Q T R a b c x y z ex ey ez ea eb ec =
    ap (λ (w : List ℕ). concat_map encode_word (S ∷ Q ∷ T ∷ R ∷ header_width ∷ []) ++ w)
    (cc (ex, ey, ez, word_cut a x ea, word_cut b y eb, word_cut c z ec))

-- of the numbers of a rule, the mask the last, as many as a form has
numbers_taken : (form : Form) (xs : List ℕ) (mask n : ℕ) → length xs ≡ max_children + 2 → n ≡ rule_numbers form → take n (xs ++ mask ∷ []) ≡ xs ++ mask_numbers form mask
unfolding rule_numbers mask_numbers
numbers_taken Narrow xs mask n e f = take_at xs (mask ∷ []) n (e ∙ sym f) ∙ sym (append-nil xs)
numbers_taken Wide xs mask n e f = take_at xs (mask ∷ []) n (e ∙ sym f) ∙ sym (append-nil xs)
numbers_taken Isolating xs mask n e f = take_all n (xs ++ mask ∷ []) (let l = length-append xs (mask ∷ []) in omega arith)

pub rule_words : {A : Type 0} (g : A → ℕ) (d : A) (form : Form) (f t mask n : ℕ) (ps : List A) → length ps ≡ max_children → n ≡ rule_numbers form → concat_map encode_word (take n (f ∷ t ∷ tab max_children (λ k. g (get_or ps k d)) ++ mask ∷ [])) ≡ encode_places form f t (map g ps) mask
unfolding encode_places
rule_words g d form f t mask n ps e en =
    let places : tab max_children (λ k. g (get_or ps k d)) ≡ map g ps = ap (λ (m : ℕ). tab m (λ k. g (get_or ps k d))) (sym e) ∙ tab_map g d ps in
    ap (concat_map encode_word)
    (numbers_taken form (f ∷ t ∷ tab max_children (λ k. g (get_or ps k d))) mask n (ap (λ (m : ℕ). suc (suc m)) (length_tab max_children (λ k. g (get_or ps k d)))) en
    ∙ ap (λ (l : List ℕ). f ∷ t ∷ l ++ mask_numbers form mask) places)

-- a number below 2^16 is read back from its two bytes, and two bytes from their number
pub word_back : (x : ℕ) → x < 65536 → x % 256 + 256 * (x / 256 % 256) ≡ x
word_back x l = omega arith

pub bytes_back : (a b : ℕ) → a < 256 → b < 256 → encode_word (a + 256 * b) ≡ a ∷ b ∷ []
bytes_back a b la lb =
    let low : (a + 256 * b) % 256 ≡ a = add-mul-mod_self_left a 256 b ∙ mod-eq_of_lt la in
    let high : (a + 256 * b) / 256 % 256 ≡ b = rw (add-mul-div_left a b {y = 256} (omega arith), div-eq_of_lt la, zero-add) (mod-eq_of_lt lb) in
    cc

-- the number at a place where its low byte is the last, and past the end
module _ (s : List ℕ) (k : ℕ) where
  pub number_last : (n : ℕ) → length s ≤ k + 1 → n ≡ get_or s k 0 → n < 256 → NumberAt s k n
  unfolding word
  number_last n l e m = let z = get_or-eq_default s 0 l in (omega arith, mod-eq_of_lt m ∙ e)

  pub number_past : length s ≤ k → NumberAt s k 0
  number_past l = number_last 0 (omega arith) (sym (get_or-eq_default s 0 l)) (omega arith)
