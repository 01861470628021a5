-- A piece of a string that is read is a char by its production, and a char by its production is read as a piece. Assumes nothing.
use mathlib.Core.Path.{◌≡◌, refl, sym, ap, subst, ◌∙◌}
use mathlib.Core.Bool.{Bool, true, false, not, ◌||◌, cond}
use mathlib.Core.List.Memᴰ.{head as here}
use mathlib.Core.List.Memᴰ.{tail as there}
use mathlib.Core.List.{List, [], ◌∷◌, Memᴰ as In}
use Prim.Native.Nat.{ℕ, ◌+◌, ◌-◌, ◌<◌, ◌≤◌}
use native.Mathlib.Omega.{arith}
use borrow.Author.Tests.{eq-eqb, ne_eqb, eqb-true, eqb-false, lt-ltb, le-ltb, ltb-true, ltb-false, not-false}
use lib.Dec.{eqb, ltb}
use lib.ListN.{length, take, drop}
use lib.Seq.{drop-cons}
use Rattle.model.specs.Lists.{any}
use Rattle.classes.specs.Classes.{control?}
use Rattle.base.specs.Text.{byte_at, Got, got, fault}
use Rattle.jsontext.specs.Utf8.{between, Stretch, up_to, broken_at, sequence_at, utf8}
use Rattle.jsontext.specs.Strings.{simple, first_unit, second_unit, high?, paired, Piece, closed, raw, code, bad, as_pair, pair_at, unicode_at, escape_at, as_raw, piece_at}
use Rattle.jsontext.specs.Productions.{unescaped?, letters, Hex4, UnicodeAt, surrogate?, low_surrogate?, CharAt, unescaped, above_7_f, letter, unicode, pair}
use Rattle.jsontext.proofs.Places.{stands_above, either, none_of, in_range, range_below, past_range}
use Rattle.jsontext.proofs.SequenceProductions.{sequence_read, read_sequence, sequence_above, sequence_ahead}
use Rattle.jsontext.proofs.HexProductions.{first_read, read_first, second_read, read_second, hex_inside}

-- BYTES THAT STAND FOR THEMSELVES
module _ (b : ℕ) where
  pub plain_range : unescaped? b ≡ true → (32 ≤ b) × (b < 128) × (eqb b 34 ≡ false) × (eqb b 92 ≡ false)
  unfolding unescaped?
  plain_range =
      either (between 32 33 b) (between 35 91 b || between 93 127 b) (λ e. let r = in_range 32 33 b e in (omega arith, omega arith, ne_eqb b 34 (λ z. omega arith), ne_eqb b 92 (λ z. omega arith)))
      (either (between 35 91 b) (between 93 127 b) (λ e. let r = in_range 35 91 b e in (omega arith, omega arith, ne_eqb b 34 (λ z. omega arith), ne_eqb b 92 (λ z. omega arith)))
      (λ e. let r = in_range 93 127 b e in (omega arith, omega arith, ne_eqb b 34 (λ z. omega arith), ne_eqb b 92 (λ z. omega arith))))

  range_plain : 32 ≤ b → b < 128 → (b ≡ 34 → ⊥) → (b ≡ 92 → ⊥) → unescaped? b ≡ true
  unfolding unescaped?
  range_plain lo hi p q = go (between 32 33 b) (between 35 91 b) (between 93 127 b) refl refl refl
    where
      go : (x y z : Bool) → between 32 33 b ≡ x → between 35 91 b ≡ y → between 93 127 b ≡ z → (x || (y || z)) ≡ true
      go true y z e f g = refl
      go false true z e f g = refl
      go false false true e f g = refl
      go false false false e f g =
          let k = past_range 32 33 b e lo in
          let l = past_range 35 91 b f (omega arith) in
          let m = past_range 93 127 b g (omega arith) in
          absurd (omega arith)

  no_control : 32 ≤ b → control? b ≡ false
  unfolding control?
  no_control h = le-ltb b 32 h

  control_below : control? b ≡ false → 32 ≤ b
  unfolding control?
  control_below e = ltb-false b 32 e

-- LETTERS: what holds in each row of the table, computed over the rows
module _ (c b : ℕ) (h : In (c, b) letters) where
  row : (p : ℕ × ℕ → Bool) → any p letters ≡ false → p (c, b) ≡ false
  row p none = none_of p none h

  letter_same : simple c ≡ b
  unfolding simple
  letter_same = eqb-true (simple c) b (not-false _ (row (λ r. not (eqb (simple r.0) r.1)) refl))

  pub letter_one : utf8 b ≡ b ∷ []
  unfolding utf8
  letter_one = let e : ltb b 128 ≡ true = not-false _ (row (λ r. not (ltb r.1 128)) refl) in rw e

  letter_some : eqb b 0 ≡ false
  letter_some = row (λ r. eqb r.1 0) refl

  letter_no_u : eqb c 117 ≡ false
  letter_no_u = row (λ r. eqb r.0 117) refl

  letter_above : 0 < c
  letter_above = let e = eqb-false c 0 (row (λ r. eqb r.0 0) refl) in omega arith

-- the byte of a letter in a table, 0 for one that is not there
found : List (ℕ × ℕ) → ℕ → ℕ
found [] c = 0
found (r ∷ rs) c = cond (eqb c r.0) r.1 (found rs c)

found_in : (rs : List (ℕ × ℕ)) (c : ℕ) → (found rs c ≡ 0 → ⊥) → In (c, found rs c) rs
unfolding found
found_in [] c h = absurd (h refl)
found_in (r ∷ rs) c h = go (eqb c r.0) refl (found_in rs c) h
  where
    go : (b : Bool) → eqb c r.0 ≡ b → ((found rs c ≡ 0 → ⊥) → In (c, found rs c) rs) → (cond b r.1 (found rs c) ≡ 0 → ⊥) → In (c, cond b r.1 (found rs c)) (r ∷ rs)
    go true e f h = here (λ j. (eqb-true c r.0 e j, r.1))
    go false e f h = there (f h)

simple_found : (c : ℕ) → found letters c ≡ simple c
unfolding found simple
simple_found c = refl

simple_letter : (c : ℕ) → (simple c ≡ 0 → ⊥) → In (c, simple c) letters
simple_letter c h = subst (λ (b : ℕ). In (c, b) letters) (simple_found c) (found_in letters c (λ z. h (sym (simple_found c) ∙ z)))

-- SURROGATES: high ones and low ones
module _ (v : ℕ) where
  surrogates : high? v ≡ false → low_surrogate? v ≡ false → surrogate? v ≡ false
  surrogates h l = go (surrogate? v) refl
    where
      go : (b : Bool) → surrogate? v ≡ b → surrogate? v ≡ false
      go false e = e
      go true e =
          let r = in_range 55296 57343 v e in
          let p = past_range 55296 56319 v h (omega arith) in
          let q = past_range 56320 57343 v l (omega arith) in
          absurd (omega arith)

  no_high : surrogate? v ≡ false → high? v ≡ false
  no_high e = go (high? v) refl
    where
      go : (b : Bool) → high? v ≡ b → high? v ≡ false
      go false f = f
      go true f = let r = in_range 55296 56319 v f in let p = past_range 55296 57343 v e (omega arith) in absurd (omega arith)

  no_low : surrogate? v ≡ false → low_surrogate? v ≡ false
  no_low e = go (low_surrogate? v) refl
    where
      go : (b : Bool) → low_surrogate? v ≡ b → low_surrogate? v ≡ false
      go false f = f
      go true f = let r = in_range 56320 57343 v f in let p = past_range 55296 57343 v e (omega arith) in absurd (omega arith)

  high_no_low : high? v ≡ true → low_surrogate? v ≡ false
  high_no_low e = let r = in_range 55296 56319 v e in range_below 56320 57343 v (omega arith)

module _ (t : List ℕ) where
  one_byte : (i : ℕ) → i < length t → take (i + 1 - i) (drop i t) ≡ byte_at t i ∷ []
  one_byte i h = let e : i + 1 - i ≡ 1 = omega arith in rw (e, drop-cons t i 0 h)

  -- WHAT IS READ

  -- what a piece that is read from place i on is
  abbrev pub PieceIs : ℕ → Piece → Type 0
  PieceIs i closed = byte_at t i ≡ 34
  PieceIs i (raw n) = CharAt t i (take (n - i) (drop i t)) n
  PieceIs i (code c n) = CharAt t i (utf8 c) n
  PieceIs i (bad p) = Unit {0}

  module _ (i v : ℕ) (first : UnicodeAt t i v) (high : high? v ≡ true) where
    second_is : (n : ℕ) → n ≡ i + 6 → byte_at t n ≡ 92 → byte_at t (n + 1) ≡ 117 → (g : Got ℕ) → second_unit t (n + 2) ≡ g → PieceIs i (as_pair v g)
    second_is n e p q (got w m) f =
        let (h, l, k) = second_read t (n + 2) f in
        let end : m ≡ i + 12 = omega arith in
        let two : UnicodeAt t n w = record { escape = p; u = q; hex = h } in
        pair first high (subst (λ (x : ℕ). UnicodeAt t x w) e two) l end
    second_is n e p q (fault x) f = tt

    pair_is : (n : ℕ) → n ≡ i + 6 → PieceIs i (pair_at t v n)
    unfolding pair_at
    pair_is n e = go (eqb (byte_at t n) 92) (eqb (byte_at t (n + 1)) 117) refl refl
      where
        go : (a b : Bool) → eqb (byte_at t n) 92 ≡ a → eqb (byte_at t (n + 1)) 117 ≡ b → PieceIs i (elim a [ false ↦ bad n | true ↦ elim b [ false ↦ bad (n + 1) | true ↦ as_pair v (second_unit t (n + 2)) ] ])
        go false b p q = tt
        go true false p q = tt
        go true true p q = second_is n e (eqb-true _ _ p) (eqb-true _ _ q) (second_unit t (n + 2)) refl

  unicode_is : (i j : ℕ) → j ≡ i + 2 → byte_at t i ≡ 92 → byte_at t (i + 1) ≡ 117 → PieceIs i (unicode_at t j)
  unfolding unicode_at
  unicode_is i j e p q = go (first_unit t j) refl
    where
      or : (v n : ℕ) → UnicodeAt t i v → low_surrogate? v ≡ false → n ≡ i + 6 → (b : Bool) → high? v ≡ b → PieceIs i (elim b [ true ↦ pair_at t v n | false ↦ code v n ])
      or v n h l k true f = pair_is i v h f n k
      or v n h l k false f = unicode h (surrogates v f l) k

      go : (g : Got ℕ) → first_unit t j ≡ g → PieceIs i (elim g [ fault x ↦ bad x | got v n ↦ elim (high? v) [ true ↦ pair_at t v n | false ↦ code v n ] ])
      go (fault x) f = tt
      go (got v n) f =
          let (h, l, k) = first_read t j f in
          or v n (record { escape = p; u = q; hex = subst (λ (x : ℕ). Hex4 t x v) e h }) l (omega arith) (high? v) refl

  escape_is : (i : ℕ) → byte_at t i ≡ 92 → PieceIs i (escape_at t (i + 1))
  unfolding escape_at
  escape_is i p = go (eqb (byte_at t (i + 1)) 117) refl (eqb (simple (byte_at t (i + 1))) 0) refl
    where
      go : (a : Bool) → eqb (byte_at t (i + 1)) 117 ≡ a → (b : Bool) → eqb (simple (byte_at t (i + 1))) 0 ≡ b
          → PieceIs i (elim a [ true ↦ unicode_at t (i + 1 + 1) | false ↦ elim b [ true ↦ bad (i + 1) | false ↦ code (simple (byte_at t (i + 1))) (i + 1 + 1) ] ])
      go true q b f = unicode_is i (i + 1 + 1) (omega arith) p (eqb-true _ _ q)
      go false q true f = tt
      go false q false f =
          let h = simple_letter (byte_at t (i + 1)) (eqb-false _ _ f) in
          let two : i + 1 + 1 ≡ i + 2 = omega arith in
          rw (letter_one (byte_at t (i + 1)) (simple (byte_at t (i + 1))) h) (letter p h two)

  pub piece_is : (i : ℕ) → PieceIs i (piece_at t i)
  unfolding piece_at
  piece_is i = go (eqb (byte_at t i) 34) refl (eqb (byte_at t i) 92) refl (control? (byte_at t i)) refl (ltb (byte_at t i) 128) refl
    where
      above : (s : Stretch) → sequence_at t i ≡ s → PieceIs i (as_raw s)
      above (up_to n) e = above_7_f (sequence_read t e)
      above (broken_at p) e = tt

      go : (a : Bool) → eqb (byte_at t i) 34 ≡ a → (b : Bool) → eqb (byte_at t i) 92 ≡ b → (c : Bool) → control? (byte_at t i) ≡ c → (d : Bool) → ltb (byte_at t i) 128 ≡ d
          → PieceIs i (elim a [ true ↦ closed | false ↦ elim b [ true ↦ escape_at t (i + 1) | false ↦ elim c [ true ↦ bad i | false ↦ elim d [ true ↦ raw (i + 1) | false ↦ as_raw (sequence_at t i) ] ] ] ])
      go true p b q c r d s = eqb-true _ _ p
      go false p true q c r d s = escape_is i (eqb-true _ _ q)
      go false p false q true r d s = tt
      go false p false q false r true s =
          let lo = control_below (byte_at t i) r in
          let hi = ltb-true (byte_at t i) 128 s in
          rw (one_byte i (stands_above t i (omega arith))) (unescaped (range_plain (byte_at t i) lo hi (eqb-false _ _ p) (eqb-false _ _ q)) refl)
      go false p false q false r false s = above (sequence_at t i) refl

  -- WHAT IS A CHAR IS READ

  -- a piece that stands for the bytes bs up to place n
  pub data PieceFor (i : ℕ) (bs : List ℕ) (n : ℕ) : Type 0 where
    as_raw_lem : piece_at t i ≡ raw n → bs ≡ take (n - i) (drop i t) → PieceFor i bs n
    as_code : {c : ℕ} → piece_at t i ≡ code c n → bs ≡ utf8 c → PieceFor i bs n

  piece_escape : (i : ℕ) → byte_at t i ≡ 92 → piece_at t i ≡ escape_at t (i + 1)
  unfolding piece_at
  piece_escape i e = rw (piece_at, ne_eqb (byte_at t i) 34 (λ z. omega arith), eq-eqb (byte_at t i) 92 e)

  piece_unicode : (i v : ℕ) → UnicodeAt t i v → piece_at t i ≡ unicode_at t (i + 2)
  unfolding escape_at
  piece_unicode i v h =
      let two : i + 1 + 1 ≡ i + 2 = omega arith in
      piece_escape i h.escape ∙ rw (escape_at, eq-eqb (byte_at t (i + 1)) 117 h.u, two)

  -- after \u and the first number
  module _ (i v : ℕ) (h : UnicodeAt t i v) (low : low_surrogate? v ≡ false) where
    unicode_first : first_unit t (i + 2) ≡ got v (i + 6)
    unicode_first = let e : i + 2 + 4 ≡ i + 6 = omega arith in read_first t (i + 2) h.hex low ∙ ap (got v) e

    unicode_one : high? v ≡ false → piece_at t i ≡ code v (i + 6)
    unfolding unicode_at
    unicode_one f = piece_unicode i v h ∙ rw (unicode_at, unicode_first, f)

    unicode_pair : high? v ≡ true → piece_at t i ≡ pair_at t v (i + 6)
    unfolding unicode_at
    unicode_pair f = piece_unicode i v h ∙ rw (unicode_at, unicode_first, f)

  pair_all : (i v w : ℕ) → UnicodeAt t i w → low_surrogate? w ≡ true → pair_at t v i ≡ code (paired v w) (i + 6)
  unfolding pair_at
  pair_all i v w h low =
      let e : i + 2 + 4 ≡ i + 6 = omega arith in
      rw (pair_at, eq-eqb (byte_at t i) 92 h.escape, eq-eqb (byte_at t (i + 1)) 117 h.u) (ap (as_pair v) (read_second t (i + 2) h.hex low ∙ ap (got w) e))

  pub char_piece : {i n : ℕ} {bs : List ℕ} → CharAt t i bs n → PieceFor i bs n
  unfolding piece_at escape_at
  char_piece {i = i} {n = n} (unescaped b e) =
      let (lo, hi, p, q) = plain_range (byte_at t i) b in
      let f : piece_at t i ≡ raw (i + 1) = rw (piece_at, p, q, no_control (byte_at t i) lo, lt-ltb (byte_at t i) 128 hi) in
      as_raw_lem (f ∙ ap raw (sym e)) (rw e (sym (one_byte i (stands_above t i (omega arith)))))
  char_piece {i = i} (above_7_f h) =
      let k = sequence_above t h in
      let p : eqb (byte_at t i) 34 ≡ false = ne_eqb (byte_at t i) 34 (λ z. omega arith) in
      let q : eqb (byte_at t i) 92 ≡ false = ne_eqb (byte_at t i) 92 (λ z. omega arith) in
      as_raw_lem (rw (piece_at, p, q, no_control (byte_at t i) (omega arith), le-ltb (byte_at t i) 128 (omega arith)) (ap as_raw (read_sequence t h))) refl
  char_piece {i = i} {n = n} (letter {b = b} e h f) =
      let two : i + 1 + 1 ≡ n = omega arith in
      as_code {c = b}
      (piece_escape i e ∙ rw (escape_at, letter_no_u (byte_at t (i + 1)) b h, letter_same (byte_at t (i + 1)) b h, letter_some (byte_at t (i + 1)) b h, two, letter_same (byte_at t (i + 1)) b h))
      (sym (letter_one (byte_at t (i + 1)) b h))
  char_piece {i = i} (unicode {v = v} h s e) = as_code {c = v} (unicode_one i v h (no_low v s) (no_high v s) ∙ ap (code v) (sym e)) refl
  char_piece {i = i} {n = n} (pair {v = v} {w = w} h p g q e) =
      let twelve : i + 6 + 6 ≡ n = omega arith in
      as_code {c = paired v w} (unicode_pair i v h (high_no_low v p) p ∙ pair_all (i + 6) v w g q ∙ ap (code (paired v w)) twelve) refl

  -- a char ends behind its place and inside the text
  pub char_ahead : {i n : ℕ} {bs : List ℕ} → CharAt t i bs n → (i < n) × (n ≤ length t)
  char_ahead {i = i} (unescaped b e) = let (lo, hi, p, q) = plain_range (byte_at t i) b in let k = stands_above t i (omega arith) in (omega arith, omega arith)
  char_ahead (above_7_f h) = sequence_ahead t h
  char_ahead {i = i} (letter {b = b} e h f) = let k = stands_above t (i + 1) (letter_above (byte_at t (i + 1)) b h) in (omega arith, omega arith)
  char_ahead {i = i} (unicode h s e) = let k = hex_inside t (i + 2) h.hex in (omega arith, omega arith)
  char_ahead {i = i} (pair h p g q e) = let k = hex_inside t (i + 6 + 2) g.hex in (omega arith, omega arith)
