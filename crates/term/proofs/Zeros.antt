-- A text is read as the text with its zeros made one, and spells the same trees (document 02, Wish 6). Assumes nothing.
use mathlib.Core.Path.{◌≡◌, refl, sym, ap, ◌∙◌, fun_ext}
use mathlib.Core.Bool.{Bool, true, false, cond}
use mathlib.Core.List.{List, [], ◌∷◌}
use mathlib.Core.Option.{Option}
use Prim.Native.Nat.{ℕ, zero, suc, ◌+◌, ◌-◌, ◌*◌, ◌^◌, ◌<◌, ◌≤◌}
use native.Mathlib.Nat.{mul_assoc, mul_comm, pow-suc}
use native.Mathlib.Omega.{arith}
use borrow.Author.Tests.{eq-eqb, ne_eqb, eqb-true, ltb-true, ltb-false}
use lib.Dec.{eqb, leb, ltb}
use lib.ListN.{length, get_or, take, drop, get_or-replicate, length-drop, get_or-eq_default}
use lib.Seq.{ext_get_or, get_or-take, get_or-drop, length-take-le}
use Rattle.model.specs.Table.{one_zero}
use Rattle.model.specs.Lists.{tab, all_below}
use Rattle.model.specs.Tree.{Tree}
use Rattle.model.proofs.Tab.{tab_at, tab_past, length_tab}
use Rattle.model.proofs.Below.{at}
use Rattle.automaton.specs.Stored.{decode}
use Rattle.automaton.specs.Check.{check_of}
use Rattle.names.specs.Check.{names_check_of}
use Rattle.names.specs.Names.{letter?, digit?, name_byte?, max_name}
use Rattle.term.specs.Scan.{byte_at, Got, got, fault, leading, name_bytes, name_at, word_bytes, word_at, digit_value, digits_from, number_at, hex_digit?, hex_value, hex_from, Scalar, scalar, of_kind, of_rate, value_at, scalar_at}
use Rattle.term.specs.Zeros.{minus_zero_text, sign_digit?, zeros_one}
use Rattle.term.specs.Spelling.{TermAt}
use Rattle.term.specs.Read.{setting_for, unless_refused, read_of}
use Rattle.base.proofs.Bytes.{inside}
use Rattle.term.proofs.Bytes.{letter_range}
use Rattle.base.proofs.Leading.{led_all, counted}
use Rattle.term.proofs.Symbols.{name_fits}
use Rattle.term.proofs.Alike.{AlikeTexts, alike_sym, term_there, text_same}

not_both : (b : ℕ) → b ≡ 48 → b ≡ 56 → ⊥
not_both b e f = omega arith

-- zeros read as hex digits, after the number v
zeros_read : (t : List ℕ) (n v i : ℕ) → ((k : ℕ) → k < n → byte_at t (i + k) ≡ 48) → hex_from n t v i ≡ got (v * 16 ^ n) (i + n)
unfolding hex_from hex_digit? hex_value digit?
zeros_read t zero v i h = let p : i ≡ i + 0 = omega arith in let q : v ≡ v * 1 = omega arith in λ j. got (q j) (p j)
zeros_read t (suc n) v i h =
    let z : byte_at t i ≡ 48 = let p : i + 0 ≡ i = omega arith in ap (byte_at t) (sym p) ∙ h 0 (omega arith) in
    let p : suc i + n ≡ i + suc n = omega arith in
    let x : v * 16 + 0 ≡ v * 16 = omega arith in
    let q : (v * 16 + 0) * 16 ^ n ≡ v * 16 ^ suc n = ap (◌* 16 ^ n) x ∙ mul_assoc v 16 (16 ^ n) ∙ ap (v *◌) (mul_comm 16 (16 ^ n) ∙ sym (pow-suc 16 n)) in
    ap {B = Got ℕ} (λ b. elim (hex_digit? b) [ true ↦ hex_from n t (v * 16 + hex_value b) (suc i) | false ↦ fault i ]) z
    ∙ zeros_read t n (v * 16 + 0) (suc i) (λ k l. let r : i + suc k ≡ suc i + k = omega arith in ap (byte_at t) (sym r) ∙ h (suc k) (omega arith))
    ∙ λ j. got (q j) (p j)

module _ (t : List ℕ) where
  -- the bytes of a minus zero from place i on
  minus_byte : (i : ℕ) → sign_digit? t (suc i) ≡ true → (k : ℕ) → k < 17 → byte_at t (i + k) ≡ get_or minus_zero_text k 0
  unfolding sign_digit? word_bytes
  minus_byte i e k l =
      let n = eqb-true (word_bytes minus_zero_text t i) 17 e in
      eqb-true (byte_at t (i + k)) (get_or minus_zero_text k 0) ((counted (λ j. eqb (byte_at t (i + j)) (get_or minus_zero_text j 0)) 17).passed k (omega arith))

  pub minus_there : (i : ℕ) → ((k : ℕ) → k < 17 → byte_at t (i + k) ≡ get_or minus_zero_text k 0) → sign_digit? t (suc i) ≡ true
  unfolding sign_digit? word_bytes
  minus_there i h =
      let same : ℕ → Bool = λ k. eqb (byte_at t (i + k)) (get_or minus_zero_text k 0) in
      let n : 17 ≡ word_bytes minus_zero_text t i = led_all same 17 17 (record { inside = omega arith; passed = λ k l. eq-eqb _ _ (h k l) }) (omega arith) in
      eq-eqb (word_bytes minus_zero_text t i) 17 (sym n)

  -- its 8, the zeros behind it and the `~` before it
  sign_is : (i : ℕ) → sign_digit? t i ≡ true → byte_at t i ≡ 56
  unfolding sign_digit?
  sign_is zero e = let z : ◌≡◌ {A = ℕ} 0 1 = cc in absurd (omega arith)
  sign_is (suc i) e = let p : i + 1 ≡ suc i = omega arith in ap (byte_at t) (sym p) ∙ minus_byte i e 1 (omega arith)

  zeros_behind : (i : ℕ) → sign_digit? t i ≡ true → (k : ℕ) → k < 15 → byte_at t (suc i + k) ≡ 48
  unfolding sign_digit?
  zeros_behind zero e k l = let z : ◌≡◌ {A = ℕ} 0 1 = cc in absurd (omega arith)
  zeros_behind (suc i) e k l =
      let p : i + suc (suc k) ≡ suc (suc i) + k = omega arith in
      ap (byte_at t) (sym p) ∙ minus_byte i e (suc (suc k)) (omega arith) ∙ get_or-replicate 15 k 48 0 l

  not_behind : (i : ℕ) → (byte_at t i ≡ 126 → ⊥) → sign_digit? t (suc i) ≡ false
  not_behind i n = go (sign_digit? t (suc i)) refl
    where
      go : (b : Bool) → sign_digit? t (suc i) ≡ b → b ≡ false
      go true e = let p : i + 0 ≡ i = omega arith in absurd (n (ap (byte_at t) (sym p) ∙ minus_byte i e 0 (omega arith)))
      go false e = refl

  not_sign : (i : ℕ) → (byte_at t i ≡ 56 → ⊥) → sign_digit? t i ≡ false
  not_sign i n = go (sign_digit? t i) refl
    where
      go : (b : Bool) → sign_digit? t i ≡ b → b ≡ false
      go true e = absurd (n (sign_is i e))
      go false e = refl

module _ (t : List ℕ) where
  -- the other text, byte by byte
  abbrev t' : List ℕ
  t' = zeros_one t

  pub same_length : length (zeros_one t) ≡ length t
  unfolding zeros_one
  same_length = length_tab (length t) (λ i. cond (sign_digit? t i) 48 (byte_at t i))

  at_byte : (i : ℕ) → byte_at t' i ≡ cond (sign_digit? t i) 48 (byte_at t i)
  unfolding zeros_one
  at_byte i = go (ltb i (length t)) refl
    where
      past : (b : Bool) → sign_digit? t i ≡ b → length t ≤ i → 0 ≡ cond b 48 (byte_at t i)
      past true e l = let s = sign_is t i e in let m = inside t i (omega arith) in absurd (omega arith)
      past false e l = sym (get_or-eq_default t 0 l)

      go : (b : Bool) → ltb i (length t) ≡ b → byte_at (tab (length t) (λ j. cond (sign_digit? t j) 48 (byte_at t j))) i ≡ cond (sign_digit? t i) 48 (byte_at t i)
      go true e = tab_at 0 (length t) (λ j. cond (sign_digit? t j) 48 (byte_at t j)) i (ltb-true i (length t) e)
      go false e =
          let l = ltb-false i (length t) e in
          tab_past 0 (length t) (λ j. cond (sign_digit? t j) 48 (byte_at t j)) i l ∙ past (sign_digit? t i) refl l

  same_byte : (i : ℕ) → sign_digit? t i ≡ false → byte_at t' i ≡ byte_at t i
  same_byte i e = at_byte i ∙ ap (λ b. cond b 48 (byte_at t i)) e

  -- A TEXT WITHOUT MINUS ZERO STAYS AS IT IS
  pub clean_stays : ((i : ℕ) → sign_digit? t i ≡ false) → zeros_one t ≡ t
  clean_stays h = ext_get_or 0 t' t same_length (λ i l. same_byte i (h i))

  -- a test that does not tell 0 from 8
  alike : {A : Type 0} (p : ℕ → A) → p 48 ≡ p 56 → (i : ℕ) → p (byte_at t' i) ≡ p (byte_at t i)
  alike p e i = ap p (at_byte i) ∙ go (sign_digit? t i) refl
    where
      go : (b : Bool) → sign_digit? t i ≡ b → p (cond b 48 (byte_at t i)) ≡ p (byte_at t i)
      go true q = e ∙ ap p (sym (sign_is t i q))
      go false q = refl

  -- behind a byte that passes a test which `~` fails there is no sign digit
  behind : (p : ℕ → Bool) → p 126 ≡ false → (i : ℕ) → p (byte_at t i) ≡ true → sign_digit? t (suc i) ≡ false
  behind p e i h = not_behind t i (λ q. let z : ◌≡◌ {A = ℕ} 0 1 = cc in omega arith)

  -- digits, from a place that is no sign digit on
  same_digits : (f limit v i : ℕ) → sign_digit? t i ≡ false → digits_from f limit t' v i ≡ digits_from f limit t v i
  unfolding digits_from digit?
  same_digits zero limit v i n = refl
  same_digits (suc f) limit v i n =
      ap (λ b. step t' b (digit? b) (ltb (v * 10 + digit_value b) limit)) (same_byte i n)
      ∙ go (digit? (byte_at t i)) (ltb (v * 10 + digit_value (byte_at t i)) limit) refl (λ d. same_digits f limit (v * 10 + digit_value (byte_at t i)) (suc i) (behind digit? refl i d))
    where
      step : (s : List ℕ) → ℕ → Bool → Bool → Got ℕ
      step s b a l = elim a [ false ↦ got v i | true ↦ elim l [ true ↦ digits_from f limit s (v * 10 + digit_value b) (suc i) | false ↦ fault i ] ]

      go : (a l : Bool) → digit? (byte_at t i) ≡ a → (digit? (byte_at t i) ≡ true → digits_from f limit t' (v * 10 + digit_value (byte_at t i)) (suc i) ≡ digits_from f limit t (v * 10 + digit_value (byte_at t i)) (suc i)) → step t' (byte_at t i) a l ≡ step t (byte_at t i) a l
      go false l e r = refl
      go true true e r = r e
      go true false e r = refl

  same_number : (limit i : ℕ) → sign_digit? t i ≡ false → number_at limit t' i ≡ number_at limit t i
  unfolding number_at digit?
  same_number limit i n =
      (λ j. step t' (same_byte i n j) (digit? (same_byte i n j)) (eqb (same_byte i n j) 48) (alike digit? refl (i + 1) j) (same_length j))
      ∙ go (digit? (byte_at t i)) (eqb (byte_at t i) 48) refl
    where
      step : (s : List ℕ) → ℕ → Bool → Bool → Bool → ℕ → Got ℕ
      step s b a z d m = elim a [ false ↦ fault i | true ↦ elim z [ true ↦ cond d (fault (i + 1)) (got 0 (i + 1)) | false ↦ digits_from (m - (i + 1)) limit s (digit_value b) (i + 1) ] ]

      go : (a z : Bool) → digit? (byte_at t i) ≡ a → step t' (byte_at t i) a z (digit? (byte_at t (i + 1))) (length t) ≡ step t (byte_at t i) a z (digit? (byte_at t (i + 1))) (length t)
      go false z e = refl
      go true true e = refl
      go true false e =
          let p : suc i ≡ i + 1 = omega arith in
          same_digits (length t - (i + 1)) limit (digit_value (byte_at t i)) (i + 1) (ap (sign_digit? t) (sym p) ∙ behind digit? refl i e)

  same_hex : (n v i : ℕ) → sign_digit? t i ≡ false → hex_from n t' v i ≡ hex_from n t v i
  unfolding hex_from hex_digit? digit?
  same_hex zero v i h = refl
  same_hex (suc n) v i h =
      ap (λ b. step t' b (hex_digit? b)) (same_byte i h) ∙ go (hex_digit? (byte_at t i)) refl (λ d. same_hex n (v * 16 + hex_value (byte_at t i)) (suc i) (behind hex_digit? refl i d))
    where
      step : (s : List ℕ) → ℕ → Bool → Got ℕ
      step s b a = elim a [ true ↦ hex_from n s (v * 16 + hex_value b) (suc i) | false ↦ fault i ]

      go : (a : Bool) → hex_digit? (byte_at t i) ≡ a → (hex_digit? (byte_at t i) ≡ true → hex_from n t' (v * 16 + hex_value (byte_at t i)) (suc i) ≡ hex_from n t (v * 16 + hex_value (byte_at t i)) (suc i)) → step t' (byte_at t i) a ≡ step t (byte_at t i) a
      go true e r = r e
      go false e r = refl

  -- a rate: where the two texts differ in a digit, both say zero
  same_rate : (i : ℕ) → of_rate (hex_from 16 t' 0 i) ≡ of_rate (hex_from 16 t 0 i)
  unfolding hex_from hex_digit? hex_value digit? one_zero
  same_rate i = go (sign_digit? t i) refl
    where
      zero_at : sign_digit? t i ≡ true → (k : ℕ) → k < 16 → byte_at t' (i + k) ≡ 48
      zero_at e zero l = let p : i + 0 ≡ i = omega arith in ap (byte_at t') p ∙ at_byte i ∙ ap (λ b. cond b 48 (byte_at t i)) e
      zero_at e (suc k) l =
          let p : i + suc k ≡ suc i + k = omega arith in
          let z = zeros_behind t i e k (omega arith) in
          ap (byte_at t') p ∙ same_byte (suc i + k) (not_sign t (suc i + k) (not_both _ z)) ∙ z

      first : byte_at t i ≡ 56 → hex_from 16 t 0 i ≡ hex_from 15 t 8 (suc i)
      first e = ap {B = Got ℕ} (λ b. elim (hex_digit? b) [ true ↦ hex_from 15 t (0 * 16 + hex_value b) (suc i) | false ↦ fault i ]) e

      go : (b : Bool) → sign_digit? t i ≡ b → of_rate (hex_from 16 t' 0 i) ≡ of_rate (hex_from 16 t 0 i)
      go true e =
          let p : i + 16 ≡ suc i + 15 = omega arith in
          ap of_rate (zeros_read t' 16 0 i (zero_at e)) ∙ ap (got (scalar 3 0)) p ∙ sym (ap of_rate (first (sign_is t i e) ∙ zeros_read t 15 8 (suc i) (zeros_behind t i e)))
      go false e = ap of_rate (same_hex 16 0 i e)

  -- a word of letters
  same_word : {A : Type 0} (v : A) (w : List ℕ) → ((k : ℕ) → eqb 48 (get_or w k 0) ≡ eqb 56 (get_or w k 0)) → (i : ℕ) → word_at v w t' i ≡ word_at v w t i
  unfolding word_at word_bytes
  same_word v w h i =
      ap (λ n. cond (eqb n (length w)) (got v (i + n)) (fault (i + n))) (ap (leading (length w)) (fun_ext (λ k. alike (λ b. eqb b (get_or w k 0)) (h k) (i + k))))

  letters : (w : List ℕ) → all_below (length w) (λ k. letter? (get_or w k 0)) ≡ true → (k : ℕ) → eqb 48 (get_or w k 0) ≡ eqb 56 (get_or w k 0)
  letters w h k = go (ltb k (length w)) refl
    where
      go : (b : Bool) → ltb k (length w) ≡ b → eqb 48 (get_or w k 0) ≡ eqb 56 (get_or w k 0)
      go true e =
          let r = letter_range (get_or w k 0) (at (λ j. letter? (get_or w j 0)) (length w) k h (ltb-true k (length w) e)) in
          ne_eqb 48 (get_or w k 0) (λ q. omega arith) ∙ sym (ne_eqb 56 (get_or w k 0) (λ q. omega arith))
      go false e = rw (get_or-eq_default w 0 (ltb-false k (length w) e))

  same_value : (i : ℕ) → sign_digit? t i ≡ false → value_at t' i ≡ value_at t i
  unfolding value_at all_below letter?
  same_value i n =
      (λ j. step (alike (λ b. eqb b 116) refl i j) (alike (λ b. eqb b 102) refl i j) (same_word (scalar 1 1) (116 ∷ 114 ∷ 117 ∷ 101 ∷ []) (letters (116 ∷ 114 ∷ 117 ∷ 101 ∷ []) refl) i j) (same_word (scalar 1 0) (102 ∷ 97 ∷ 108 ∷ 115 ∷ 101 ∷ []) (letters (102 ∷ 97 ∷ 108 ∷ 115 ∷ 101 ∷ []) refl) i j) (same_number (2 ^ 64) i n j))
    where
      step : Bool → Bool → Got Scalar → Got Scalar → Got ℕ → Got Scalar
      step a b x y z = elim a [ true ↦ x | false ↦ elim b [ true ↦ y | false ↦ of_kind 2 z ] ]

  same_scalar : (i : ℕ) → scalar_at t' i ≡ scalar_at t i
  unfolding scalar_at
  same_scalar i =
      (λ j. step (alike (λ b. eqb b 61) refl i j) (alike (λ b. eqb b 126) refl i j) (alike (λ b. eqb b 35) refl i j) (value_at t' (i + 1)) (same_rate (i + 1) j) (number_at (2 ^ 32) t' (i + 1)))
      ∙ go (eqb (byte_at t i) 61) (eqb (byte_at t i) 126) (eqb (byte_at t i) 35) refl refl
    where
      step : Bool → Bool → Bool → Got Scalar → Got Scalar → Got ℕ → Got Scalar
      step a b c x y z = elim a [ true ↦ x | false ↦ elim b [ true ↦ y | false ↦ elim c [ true ↦ of_kind 4 z | false ↦ got (scalar 0 0) i ] ] ]

      here : (c : ℕ) → eqb 126 c ≡ false → eqb (byte_at t i) c ≡ true → sign_digit? t (i + 1) ≡ false
      here c e h = let p : suc i ≡ i + 1 = omega arith in ap (sign_digit? t) (sym p) ∙ behind (λ b. eqb b c) e i h

      go : (a b c : Bool) → eqb (byte_at t i) 61 ≡ a → eqb (byte_at t i) 35 ≡ c → step a b c (value_at t' (i + 1)) (of_rate (hex_from 16 t 0 (i + 1))) (number_at (2 ^ 32) t' (i + 1)) ≡ step a b c (value_at t (i + 1)) (of_rate (hex_from 16 t 0 (i + 1))) (number_at (2 ^ 32) t (i + 1))
      go true b c e f = same_value (i + 1) (here 61 refl e)
      go false true c e f = refl
      go false false true e f = ap (of_kind 4) (same_number (2 ^ 32) (i + 1) (here 35 refl f))
      go false false false e f = refl

  -- a name: no byte of it is a sign digit
  same_names : (i : ℕ) → name_bytes t' i ≡ name_bytes t i
  unfolding name_bytes name_byte? letter? digit?
  same_names i = ap (leading (suc max_name)) (fun_ext (λ k. alike name_byte? refl (i + k)))

  module _ (i : ℕ) (letter : letter? (byte_at t i) ≡ true) where
    in_name : (k : ℕ) → k < name_bytes t i → byte_at t' (i + k) ≡ byte_at t (i + k)
    unfolding name_bytes name_byte? letter? digit?
    in_name zero l = let p : i + 0 ≡ i = omega arith in let r = letter_range (byte_at t i) letter in same_byte (i + 0) (ap (sign_digit? t) p ∙ not_sign t i (λ q. omega arith))
    in_name (suc k) l =
        let p : i + suc k ≡ suc (i + k) = omega arith in
        let b = (counted (λ j. name_byte? (byte_at t (i + j))) (suc max_name)).passed k (omega arith) in
        same_byte (i + suc k) (ap (sign_digit? t) p ∙ behind name_byte? refl (i + k) b)

    same_bytes : take (name_bytes t i) (drop i t') ≡ take (name_bytes t i) (drop i t)
    same_bytes =
        let n = name_bytes t i in
        let m = name_fits t i letter in
        let d = length-drop i t in
        let d' = length-drop i t' in
        let s = same_length in
        let x : length (take n (drop i t')) ≡ n = length-take-le n (drop i t') (omega arith) in
        let y : length (take n (drop i t)) ≡ n = length-take-le n (drop i t) (omega arith) in
        ext_get_or 0 (take n (drop i t')) (take n (drop i t)) (x ∙ sym y)
        (λ k l. get_or-take n (drop i t') k 0 (omega arith) ∙ get_or-drop i t' k 0 ∙ in_name k (omega arith) ∙ sym (get_or-drop i t k 0) ∙ sym (get_or-take n (drop i t) k 0 (omega arith)))

    same_name : name_at t' i ≡ name_at t i
    unfolding name_at
    same_name =
        ap (λ n. cond (leb n max_name) (got (take n (drop i t')) (i + n)) (fault (i + max_name))) (same_names i)
        ∙ ap (λ w. cond (leb (name_bytes t i) max_name) (got w (i + name_bytes t i)) (fault (i + max_name))) same_bytes

  zeros_alike : AlikeTexts t t'
  unfolding letter?
  zeros_alike =
      record {
        size = sym same_length;
        letters = λ i. sym (alike letter? refl i);
        marks = λ c l i. sym (alike (λ b. eqb b c) (ne_eqb 48 c (λ q. omega arith) ∙ sym (ne_eqb 56 c (λ q. omega arith))) i);
        names = λ i l. sym (same_name i l);
        scalars = λ i. sym (same_scalar i);
      }

  -- a byte of the other text that is neither 0 nor 8 stands in the text too
  there : (c i : ℕ) → eqb 48 c ≡ eqb 56 c → byte_at t' i ≡ c → byte_at t i ≡ c
  there c i e h = eqb-true (byte_at t i) c (sym (alike (λ b. eqb b c) e i) ∙ eq-eqb (byte_at t' i) c h)

  tilde : (i : ℕ) → byte_at t i ≡ 126 → byte_at t' i ≡ 126
  tilde i h = eqb-true (byte_at t' i) 126 (alike (λ b. eqb b 126) refl i ∙ eq-eqb (byte_at t i) 126 h)

  -- NO MINUS ZERO IS LEFT
  pub none_left : (i : ℕ) → sign_digit? (zeros_one t) i ≡ false
  unfolding sign_digit?
  none_left zero = refl
  none_left (suc i) = go (sign_digit? t' (suc i)) refl
    where
      -- the 8 is the text's own, since one of a minus zero became 0
      own : (b : Bool) → sign_digit? t (suc i) ≡ b → cond b 48 (byte_at t (suc i)) ≡ 56 → (sign_digit? t (suc i) ≡ false) × (byte_at t (suc i) ≡ 56)
      own true e h = absurd (not_both 48 refl h)
      own false e h = (e, h)

      digit : (k b : ℕ) → k < 16 → b ≡ get_or minus_zero_text (suc k) 0 → b ≡ 126 → ⊥
      digit zero b l e h = omega arith
      digit (suc k) b l e h = omega (arith, e ∙ get_or-replicate 15 k 48 0 (omega arith))

      go : (b : Bool) → sign_digit? t' (suc i) ≡ b → b ≡ false
      go false e = refl
      go true e =
          let (clear, eight) = own (sign_digit? t (suc i)) refl (sym (at_byte (suc i)) ∙ sign_is t' (suc i) e) in
          sym (minus_there t i (same eight)) ∙ clear
        where
          same : byte_at t (suc i) ≡ 56 → (k : ℕ) → k < 17 → byte_at t (i + k) ≡ get_or minus_zero_text k 0
          same eight zero l = there 126 (i + 0) refl (minus_byte t' i e 0 l)
          same eight (suc zero) l = let p : i + 1 ≡ suc i = omega arith in ap (byte_at t) p ∙ eight
          same eight (suc (suc k)) l =
              let p : i + suc (suc k) ≡ suc (i + suc k) = omega arith in
              let b = minus_byte t' i e (suc k) (omega arith) in
              let n = not_behind t (i + suc k) (λ q. digit k (byte_at t' (i + suc k)) (omega arith) b (tilde (i + suc k) q)) in
              ap (byte_at t) p ∙ sym (same_byte (suc (i + suc k)) n) ∙ ap (byte_at t') (sym p) ∙ minus_byte t' i e (suc (suc k)) l

  -- THE TREE OF A TEXT IS THAT OF THE TEXT WITH ITS ZEROS MADE ONE, for any names, of a term anywhere in it.
  pub zeros_tree : (symbol : List ℕ → Option ℕ) (i n : ℕ) (u : Tree) → (TermAt symbol t i u n → TermAt symbol (zeros_one t) i u n) × (TermAt symbol (zeros_one t) i u n → TermAt symbol t i u n)
  zeros_tree symbol i n u = (term_there t t' zeros_alike symbol, term_there t' t (alike_sym t t' zeros_alike) symbol)

-- A TEXT IS READ AS THE TEXT WITH ITS ZEROS MADE ONE, refusals and their places included, for every set, both lists, every text and every space.
pub zeros_reading : (set site built_in text : List ℕ) (space : ℕ) → read_of set site built_in text space ≡ read_of set site built_in (zeros_one text) space
unfolding read_of
zeros_reading set site built_in text space =
    ap (λ r. unless_refused (check_of set) (unless_refused (names_check_of (length (decode set).arities) site built_in) r))
    (text_same text (zeros_one text) (zeros_alike text) (setting_for set site built_in space))
