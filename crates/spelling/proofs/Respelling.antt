-- Writing undoes reading but for zeros (document 02, Wish 6): the rows read from a text are written as the text with its zeros made one. Assumes nothing.
use mathlib.Core.Path.{◌≡◌, refl, sym, ap, subst, ◌∙◌}
use mathlib.Core.Bool.{Bool, true, false, cond}
use mathlib.Core.List.{List, [], ◌∷◌, ◌++◌, append_assoc, append-nil}
use mathlib.Core.Option.{Option, some}
use Prim.Native.Nat.{ℕ, zero, suc, ◌+◌, ◌-◌, ◌*◌, ◌/◌, ◌%◌, ◌^◌, ◌<◌, ◌≤◌}
use native.Mathlib.Numerals.{add-one}
use native.Mathlib.Omega.{arith}
use borrow.Author.Tests.{eqb-true, eqb-false, lt-ltb, le-ltb}
use lib.Dec.{T, eqb, ltb, ltb→lt}
use lib.ListN.{length, get_or, take, drop, take-append-drop, get_or-append}
use lib.Seq.{get_or-drop, drop-drop, drop-cons, drop-length}
use Rattle.model.specs.Lists.{all_below}
use Rattle.model.specs.Tree.{Tree, Forest, fnil, fcons}
use Rattle.model.specs.Table.{minus_zero, one_zero, Row, tree_of}
use Rattle.model.proofs.Below.{all_at}
use Rattle.model.proofs.Scalars.{others_stay}
use Rattle.automaton.specs.Stored.{decode}
use Rattle.automaton.specs.Check.{check_of}
use Rattle.automaton.proofs.Sound.{sound_decode}
use Rattle.document.specs.Rows.{decode_rows, encode_rows}
use Rattle.document.specs.Check.{table_check_of}
use Rattle.document.proofs.Refusals.{both_passed}
use Rattle.document.proofs.Sound.{rows_back}
use Rattle.names.specs.Names.{digit?, decimal, shown_name, find_name}
use Rattle.names.proofs.Shown.{found_shown}
use Rattle.term.specs.Scan.{byte_at, Got, got, fault, name_bytes, word_bytes, word_at, digit_value, digits_from, number_at, hex_digit?, hex_value, hex_from, Scalar, scalar, of_kind, of_rate, value_at, scalar_at}
use Rattle.term.specs.Zeros.{minus_zero_text, sign_digit?, zeros_one}
use Rattle.term.specs.Read.{rows_read, read_of}
use Rattle.term.specs.Spelling.{NameAt, TermAt, leaf, branch, ArgsAt, last, more}
use Rattle.term.proofs.Symbols.{named_bytes}
use Rattle.term.proofs.TextTable.{read_passes, read_means}
use Rattle.base.proofs.Leading.{counted}
use Rattle.term.proofs.Zeros.{minus_there, same_length, none_left, zeros_tree}
use Rattle.base.proofs.Bytes.{inside}
use Rattle.term.proofs.Bytes.{digit_range, hex_above, low_hex, high_hex}
use Rattle.spelling.specs.Text.{hex_digit, hex_digits, scalar_text, term_text, behind_text, rest_text}
use Rattle.spelling.specs.Write.{fitted, unless_refused, table_text, write_of}
use Rattle.spelling.proofs.Decimal.{decimal_last, decimal_more}

not_got : {A : Type 0} {C : Type 0} (v : A) (p n : ℕ) → fault p ≡ got v n → C
not_got v p n e = let z : ◌≡◌ {A = ℕ} 0 1 = cc in absurd (omega arith)

not_least : (b : ℕ) → 48 ≤ b → (b ≡ 48 → ⊥) → 48 < b
not_least b l n = omega (arith, n)

-- one digit more
digit_more : (v b : ℕ) → 0 < v → digit? b ≡ true → decimal (v * 10 + digit_value b) ≡ decimal v ++ b ∷ []
digit_more v b h d =
    let r = digit_range b d in
    let q : (v * 10 + digit_value b) / 10 ≡ v = omega arith in
    let m : 48 + (v * 10 + digit_value b) % 10 ≡ b = omega arith in
    decimal_more (v * 10 + digit_value b) (omega arith) ∙ λ i. decimal (q i) ++ m i ∷ []

digit_alone : (b : ℕ) → digit? b ≡ true → decimal (digit_value b) ≡ b ∷ []
digit_alone b d = let r = digit_range b d in let m : 48 + digit_value b ≡ b = omega arith in decimal_last (digit_value b) (omega arith) ∙ ap (λ x. x ∷ []) m

hex_again : (b : ℕ) → hex_digit? b ≡ true → (hex_digit (hex_value b) ≡ b) × (hex_value b < 16)
unfolding hex_digit
hex_again b h = go (digit? b) refl
  where
    go : (a : Bool) → digit? b ≡ a → (cond (ltb (hex_value b) 10) (48 + hex_value b) (87 + hex_value b) ≡ b) × (hex_value b < 16)
    go true e = let r = low_hex b e in let d = digit_range b e in (rw (lt-ltb (hex_value b) 10 (omega arith)) (omega arith), omega arith)
    go false e = let r = high_hex b h e in (rw (le-ltb (hex_value b) 10 (omega arith)) (omega arith), omega arith)

hex_more : (k v b : ℕ) → hex_digit? b ≡ true → hex_digits (suc k) (v * 16 + hex_value b) ≡ hex_digits k v ++ b ∷ []
unfolding hex_digits
hex_more k v b h =
    let (e, l) = hex_again b h in
    let q : (v * 16 + hex_value b) / 16 ≡ v = omega arith in
    let m : (v * 16 + hex_value b) % 16 ≡ hex_value b = omega arith in
    λ i. hex_digits k (q i) ++ (ap hex_digit m ∙ e) i ∷ []

no_digits_lem : (v : ℕ) → hex_digits 0 v ≡ []
unfolding hex_digits
no_digits_lem v = refl

module _ (t : List ℕ) where
  -- a byte that stands at a place
  byte_there : (i b : ℕ) → byte_at t i ≡ b → 0 < b → drop i t ≡ b ∷ drop (suc i) t
  byte_there i b e h = drop-cons t i 0 (inside t i (omega arith)) ∙ ap (λ x. x ∷ drop (suc i) t) e

  mark_there : (c i : ℕ) → 0 < c → byte_at t i ≡ c → drop i t ≡ c ∷ drop (i + 1) t
  mark_there c i l e = byte_there i c e l ∙ ap (λ m. c ∷ drop m t) (sym (add-one i))

  -- what stood before, and a byte more
  one_more : (w : List ℕ) (i b : ℕ) → byte_at t i ≡ b → 0 < b → w ++ drop i t ≡ (w ++ b ∷ []) ++ drop (suc i) t
  one_more w i b e h = ap (w ++◌) (byte_there i b e h) ∙ sym (append_assoc w (b ∷ []) (drop (suc i) t))

  -- digits
  digits_back : (f limit v i w n : ℕ) → 0 < v → digits_from f limit t v i ≡ got w n → decimal v ++ drop i t ≡ decimal w ++ drop n t
  unfolding digits_from
  digits_back zero limit v i w n h e = let a : v ≡ w = cc in let b : i ≡ n = cc in λ j. decimal (a j) ++ drop (b j) t
  digits_back (suc f) limit v i w n h e = go (digit? (byte_at t i)) (ltb (v * 10 + digit_value (byte_at t i)) limit) refl e (digits_back f limit (v * 10 + digit_value (byte_at t i)) (suc i) w n (omega arith))
    where
      step : Bool → Bool → Got ℕ
      step a l = elim a [ false ↦ got v i | true ↦ elim l [ true ↦ digits_from f limit t (v * 10 + digit_value (byte_at t i)) (suc i) | false ↦ fault i ] ]

      go : (a l : Bool) → digit? (byte_at t i) ≡ a → step a l ≡ got w n
          → (digits_from f limit t (v * 10 + digit_value (byte_at t i)) (suc i) ≡ got w n → decimal (v * 10 + digit_value (byte_at t i)) ++ drop (suc i) t ≡ decimal w ++ drop n t) → decimal v ++ drop i t ≡ decimal w ++ drop n t
      go false l d q rest = let a : v ≡ w = cc in let b : i ≡ n = cc in λ j. decimal (a j) ++ drop (b j) t
      go true true d q rest =
          let r = digit_range (byte_at t i) d in
          one_more (decimal v) i (byte_at t i) refl (omega arith) ∙ ap (◌++ drop (suc i) t) (sym (digit_more v (byte_at t i) h d)) ∙ rest q
      go true false d q rest = not_got w i n q

  number_back : (limit i w n : ℕ) → number_at limit t i ≡ got w n → drop i t ≡ decimal w ++ drop n t
  unfolding number_at
  number_back limit i w n e = go (digit? (byte_at t i)) (eqb (byte_at t i) 48) (digit? (byte_at t (i + 1))) refl refl e
    where
      step : Bool → Bool → Bool → Got ℕ
      step a z d = elim a [ false ↦ fault i | true ↦ elim z [ true ↦ cond d (fault (i + 1)) (got 0 (i + 1)) | false ↦ digits_from (length t - (i + 1)) limit t (digit_value (byte_at t i)) (i + 1) ] ]

      go : (a z d : Bool) → digit? (byte_at t i) ≡ a → eqb (byte_at t i) 48 ≡ z → step a z d ≡ got w n → drop i t ≡ decimal w ++ drop n t
      go false z d x y q = not_got w i n q
      go true true true x y q = not_got w (i + 1) n q
      go true true false x y q =
          let a : 0 ≡ w = cc in
          let b : i + 1 ≡ n = cc in
          byte_there i 48 (eqb-true _ _ y) (omega arith) ∙ (λ j. 48 ∷ drop (sym (add-one i) j) t) ∙ ap (◌++ drop (i + 1) t) (sym (decimal_last 0 (omega arith))) ∙ (λ j. decimal (a j) ++ drop (b j) t)
      go true false d x y q =
          let r = digit_range (byte_at t i) x in
          let o = eqb-false (byte_at t i) 48 y in
          let above : 48 < byte_at t i = not_least (byte_at t i) r.0 o in
          byte_there i (byte_at t i) refl (omega arith)
          ∙ (λ j. sym (digit_alone (byte_at t i) x) j ++ drop (sym (add-one i) j) t)
          ∙ digits_back (length t - (i + 1)) limit (digit_value (byte_at t i)) (i + 1) w n (omega arith) q

  -- hex digits, k of which were read
  hex_back : (m k v i w n : ℕ) → hex_from m t v i ≡ got w n → hex_digits k v ++ drop i t ≡ hex_digits (k + m) w ++ drop n t
  unfolding hex_from
  hex_back zero k v i w n e = let a : v ≡ w = cc in let b : i ≡ n = cc in let c : k ≡ k + 0 = omega arith in λ j. hex_digits (c j) (a j) ++ drop (b j) t
  hex_back (suc m) k v i w n e = go (hex_digit? (byte_at t i)) refl e (hex_back m (suc k) (v * 16 + hex_value (byte_at t i)) (suc i) w n)
    where
      step : Bool → Got ℕ
      step a = elim a [ true ↦ hex_from m t (v * 16 + hex_value (byte_at t i)) (suc i) | false ↦ fault i ]

      go : (a : Bool) → hex_digit? (byte_at t i) ≡ a → step a ≡ got w n
          → (hex_from m t (v * 16 + hex_value (byte_at t i)) (suc i) ≡ got w n → hex_digits (suc k) (v * 16 + hex_value (byte_at t i)) ++ drop (suc i) t ≡ hex_digits (suc k + m) w ++ drop n t) → hex_digits k v ++ drop i t ≡ hex_digits (k + suc m) w ++ drop n t
      go false d q rest = not_got w i n q
      go true d q rest =
          let c : suc k + m ≡ k + suc m = omega arith in
          one_more (hex_digits k v) i (byte_at t i) refl (omega (arith, hex_above (byte_at t i) d))
          ∙ ap (◌++ drop (suc i) t) (sym (hex_more k v (byte_at t i) d))
          ∙ rest q
          ∙ ap (λ x. hex_digits x w ++ drop n t) c

  bits_back : (i w n : ℕ) → hex_from 16 t 0 i ≡ got w n → drop i t ≡ hex_digits 16 w ++ drop n t
  bits_back i w n e = ap (◌++ drop i t) (sym (no_digits_lem 0)) ∙ hex_back 16 0 0 i w n e

  -- a word of bytes other than 0
  word_there : (w : List ℕ) (i : ℕ) → ((k : ℕ) → k < length w → byte_at t (i + k) ≡ get_or w k 0) → ((k : ℕ) → k < length w → 0 < get_or w k 0) → drop i t ≡ w ++ drop (i + length w) t
  word_there [] i h p = let z : i ≡ i + 0 = omega arith in ap (λ x. drop x t) z
  word_there (b ∷ w) i h p =
      let z : i + 0 ≡ i = omega arith in
      let n : suc i + length w ≡ i + suc (length w) = omega arith in
      byte_there i b (ap (byte_at t) (sym z) ∙ h 0 (omega arith)) (p 0 (omega arith))
      ∙ ap (b ∷◌) (word_there w (suc i) (λ k l. let y : i + suc k ≡ suc i + k = omega arith in ap (byte_at t) (sym y) ∙ h (suc k) (omega arith)) (λ k l. p (suc k) (omega arith)))
      ∙ ap (λ x. b ∷ w ++ drop x t) n

  word_back : {A : Type 0} (v x : A) (w : List ℕ) (i n : ℕ) → T (all_below (length w) (λ k. ltb 0 (get_or w k 0))) → word_at v w t i ≡ got x n → (v ≡ x) × (drop i t ≡ w ++ drop n t)
  unfolding word_at word_bytes
  word_back v x w i n p e = go (eqb (word_bytes w t i) (length w)) refl e
    where
      go : (b : Bool) → eqb (word_bytes w t i) (length w) ≡ b → cond b (got v (i + word_bytes w t i)) (fault (i + word_bytes w t i)) ≡ got x n → (v ≡ x) × (drop i t ≡ w ++ drop n t)
      go false f q = not_got x (i + word_bytes w t i) n q
      go true f q =
          let all : word_bytes w t i ≡ length w = eqb-true _ _ f in
          let a : v ≡ x = cc in
          let b : i + word_bytes w t i ≡ n = cc in
          let c = counted (λ k. eqb (byte_at t (i + k)) (get_or w k 0)) (length w) in
          (a, word_there w i (λ k l. eqb-true _ _ (c.passed k (omega arith))) (λ k l. ltb→lt 0 (get_or w k 0) (all_at (length w) (λ j. ltb 0 (get_or w j 0)) p k l)) ∙ ap (λ m. w ++ drop m t) (ap (i +◌) (sym all) ∙ b))

  -- THE BYTES OF A SCALAR ARE ITS TEXT, where no minus zero stands
  number_of : (k n : ℕ) (x : Scalar) (g : Got ℕ) → of_kind k g ≡ got x n → (v : ℕ) × (g ≡ got v n) × (scalar k v ≡ x)
  number_of k n x (got v m) e = let y : m ≡ n = cc in (v, ap (got v) y, cc)
  number_of k n x (fault p) e = not_got x p n e

  rate_of_lem : (n : ℕ) (x : Scalar) (g : Got ℕ) → of_rate g ≡ got x n → (v : ℕ) × (g ≡ got v n) × (scalar 3 (one_zero v) ≡ x)
  rate_of_lem n x (got v m) e = let y : m ≡ n = cc in (v, ap (got v) y, cc)
  rate_of_lem n x (fault p) e = not_got x p n e

  -- a part of the text is a scalar's, and what stands from place n on
  abbrev Back : List ℕ → ℕ → Scalar → Type 0
  Back part n x = part ≡ scalar_text x.kind x.payload ++ drop n t

  being : {y x : Scalar} (part : List ℕ) (n : ℕ) → y ≡ x → Back part n y → Back part n x
  being part n e h = subst (Back part n) e h

  value_back : (i n : ℕ) (x : Scalar) → value_at t i ≡ got x n → Back (61 ∷ drop i t) n x
  unfolding value_at scalar_text all_below
  value_back i n x e = go (eqb (byte_at t i) 116) (eqb (byte_at t i) 102) e
    where
      step : Bool → Bool → Got Scalar
      step a b =
          elim a [
            | true ↦ word_at (scalar 1 1) (116 ∷ 114 ∷ 117 ∷ 101 ∷ []) t i
            | false ↦ elim b [ true ↦ word_at (scalar 1 0) (102 ∷ 97 ∷ 108 ∷ 115 ∷ 101 ∷ []) t i | false ↦ of_kind 2 (number_at (2 ^ 64) t i) ]
          ]

      go : (a b : Bool) → step a b ≡ got x n → Back (61 ∷ drop i t) n x
      go true b q = let (v, h) = word_back (scalar 1 1) x (116 ∷ 114 ∷ 117 ∷ 101 ∷ []) i n tt q in being (61 ∷ drop i t) n v (ap (61 ∷◌) h)
      go false true q = let (v, h) = word_back (scalar 1 0) x (102 ∷ 97 ∷ 108 ∷ 115 ∷ 101 ∷ []) i n tt q in being (61 ∷ drop i t) n v (ap (61 ∷◌) h)
      go false false q = let (v, h, s) = number_of 2 n x (number_at (2 ^ 64) t i) q in being (61 ∷ drop i t) n s (ap (61 ∷◌) (number_back (2 ^ 64) i v n h))

  module _ (clean : (i : ℕ) → sign_digit? t i ≡ false) where
    -- no rate that stands here is minus zero
    rate_stays : (i v n : ℕ) → byte_at t i ≡ 126 → hex_from 16 t 0 (i + 1) ≡ got v n → one_zero v ≡ v
    unfolding hex_digits hex_digit
    rate_stays i v n b e = others_stay v (λ q. refuted (drop_behind (bits_back (i + 1) v n e ∙ ap (λ x. hex_digits 16 x ++ drop n t) q)))
      where
        drop_behind : drop (i + 1) t ≡ hex_digits 16 minus_zero ++ drop n t → drop i t ≡ minus_zero_text ++ drop n t
        drop_behind h = mark_there 126 i (omega arith) b ∙ ap (126 ∷◌) h

        refuted : drop i t ≡ minus_zero_text ++ drop n t → ⊥
        refuted h =
            let z : true ≡ false = sym (minus_there t i (λ k l. sym (get_or-drop i t k 0) ∙ ap (λ x. get_or x k 0) h ∙ get_or-append minus_zero_text (drop n t) 0 k l)) ∙ clean (suc i) in
            let y : ◌≡◌ {A = ℕ} 0 1 = cc in omega arith

    scalar_back : (i n : ℕ) (x : Scalar) → scalar_at t i ≡ got x n → Back (drop i t) n x
    unfolding scalar_at scalar_text
    scalar_back i n x e = go (eqb (byte_at t i) 61) (eqb (byte_at t i) 126) (eqb (byte_at t i) 35) refl refl refl e
      where
        step : Bool → Bool → Bool → Got Scalar
        step a b c = elim a [ true ↦ value_at t (i + 1) | false ↦ elim b [ true ↦ of_rate (hex_from 16 t 0 (i + 1)) | false ↦ elim c [ true ↦ of_kind 4 (number_at (2 ^ 32) t (i + 1)) | false ↦ got (scalar 0 0) i ] ] ]

        go : (a b c : Bool) → eqb (byte_at t i) 61 ≡ a → eqb (byte_at t i) 126 ≡ b → eqb (byte_at t i) 35 ≡ c → step a b c ≡ got x n → Back (drop i t) n x
        go true b c p q r h = mark_there 61 i (omega arith) (eqb-true _ _ p) ∙ value_back (i + 1) n x h
        go false true c p q r h =
            let (v, f, s) = rate_of_lem n x (hex_from 16 t 0 (i + 1)) h in
            let stays = rate_stays i v n (eqb-true _ _ q) f in
            being (drop i t) n s (mark_there 126 i (omega arith) (eqb-true _ _ q) ∙ ap (126 ∷◌) (bits_back (i + 1) v n f ∙ ap (λ y. hex_digits 16 y ++ drop n t) (sym stays)))
        go false false true p q r h = let (v, f, s) = number_of 4 n x (number_at (2 ^ 32) t (i + 1)) h in being (drop i t) n s (mark_there 35 i (omega arith) (eqb-true _ _ r) ∙ ap (35 ∷◌) (number_back (2 ^ 32) (i + 1) v n f))
        go false false false p q r h = let s : scalar 0 0 ≡ x = cc in let m : i ≡ n = cc in being (drop i t) n s (ap (λ y. drop y t) m)

    -- names that are found are shown
    module _ (symbol : List ℕ → Option ℕ) (name : ℕ → List ℕ) (shown : (w : List ℕ) (s : ℕ) → symbol w ≡ some s → name s ≡ w) where
      name_back : {i s n : ℕ} → NameAt symbol t i s n → drop i t ≡ name s ++ drop n t
      name_back {i} {s} {n} h =
          let (e, q) = named_bytes t i h.letter symbol s n h.known in
          sym (take-append-drop (name_bytes t i) (drop i t))
          ∙ (λ j. sym (shown (take (name_bytes t i) (drop i t)) s q) j ++ drop-drop (name_bytes t i) i t j)
          ∙ ap (λ m. name s ++ drop m t) e

      -- an argument list behind its bracket
      abbrev args_text : Forest → List ℕ
      args_text fnil = []
      args_text (fcons u f) = term_text name u ++ rest_text name f

      behind_args : {i n : ℕ} {f : Forest} (x : List ℕ) → ArgsAt symbol t i f n → behind_text name x f ≡ 40 ∷ args_text f
      unfolding behind_text
      behind_args x (last h b m) = refl
      behind_args x (more h b a) = refl

      rest_args : {i n : ℕ} {f : Forest} → ArgsAt symbol t i f n → rest_text name f ≡ 44 ∷ args_text f
      unfolding rest_text
      rest_args (last h b m) = refl
      rest_args (more h b a) = refl

      -- a part, and what stands behind it
      joined : {a b : List ℕ} (v w c : List ℕ) → a ≡ v ++ b → b ≡ w ++ c → a ≡ (v ++ w) ++ c
      joined v w c p q = p ∙ ap (v ++◌) q ∙ sym (append_assoc v w c)

      mutual
        unfolding term_text

        -- THE BYTES THAT SPELL A TREE ARE ITS TEXT
        pub term_back : {i n : ℕ} {u : Tree} → TermAt symbol t i u n → drop i t ≡ term_text name u ++ drop n t
        term_back (leaf {next = next} {n = n} {s = s} {k = k} {p = p} h b q) = joined (name s) (scalar_text k p) (drop n t) (name_back h) (scalar_back next n (scalar k p) q)
        term_back (branch {next = next} {n = n} {s = s} {f = f} h b a) =
            joined (name s) (behind_text name (scalar_text 0 0) f) (drop n t) (name_back h) (mark_there 40 next (omega arith) b ∙ ap (40 ∷◌) (args_back a) ∙ ap (◌++ drop n t) (sym (behind_args (scalar_text 0 0) a)))

        args_back : {i n : ℕ} {f : Forest} → ArgsAt symbol t i f n → drop i t ≡ args_text f ++ drop n t
        args_back (last {next = next} {n = n} {u = u} h b m) = joined (term_text name u) (41 ∷ []) (drop n t) (term_back h) (mark_there 41 next (omega arith) b ∙ ap (λ x. 41 ∷ drop x t) (sym m))
        args_back (more {next = next} {n = n} {u = u} {f = f} h b a) =
            joined (term_text name u) (rest_text name f) (drop n t) (term_back h) (mark_there 44 next (omega arith) b ∙ ap (44 ∷◌) (args_back a) ∙ ap (◌++ drop n t) (sym (rest_args a)))

-- a whole text
text_back : (symbol : List ℕ → Option ℕ) (name : ℕ → List ℕ) → ((w : List ℕ) (s : ℕ) → symbol w ≡ some s → name s ≡ w) → (text : List ℕ) (u : Tree) → TermAt symbol text 0 u (length text) → term_text name u ≡ zeros_one text
text_back symbol name shown text u h =
    let spelled = term_back (zeros_one text) (none_left text) symbol name shown ((zeros_tree text symbol 0 (length text) u).0 h) in
    let nothing : drop (length text) (zeros_one text) ≡ [] = ap (λ n. drop n (zeros_one text)) (sym (same_length text)) ∙ drop-length (zeros_one text) in
    sym (spelled ∙ ap (term_text name u ++◌) nothing ∙ append-nil (term_text name u))

-- WRITING UNDOES READING BUT FOR ZEROS: the rows read from a text are written as the text with its zeros made one, for every set, both lists, every text and every space; 68 where that is too short.
pub written_back : (set site built_in text : List ℕ) (space : ℕ) (rows : List Row) → read_of set site built_in text space ≡ rows_read rows → (room : ℕ) → write_of set site built_in (encode_rows rows) room ≡ fitted room (zeros_one text)
unfolding write_of
written_back set site built_in text space rows e room =
    let (set-passes, names-pass, read) = read_passes set site built_in text space rows e in
    let m = read_means set site built_in text space rows e in
    let (again, table_passes) = both_passed (check_of set) (table_check_of (decode set) (encode_rows rows)) m.passes in
    let back : decode_rows (encode_rows rows) ≡ rows = rows_back (decode set) rows (sound_decode set set-passes) m.sound in
    let is : table_text site built_in (encode_rows rows) ≡ zeros_one text =
    ap (λ r. term_text (shown_name site built_in) (tree_of r)) back
    ∙ ap (term_text (shown_name site built_in)) m.same_tree
    ∙ text_back (find_name (length (decode set).arities) site built_in) (shown_name site built_in) (λ w s q. (found_shown (length (decode set).arities) site built_in w s q).1) text m.tree m.spelled in
    λ i. unless_refused (set-passes i) (unless_refused (names-pass i) (unless_refused (table_passes i) (fitted room (is i))))
