-- A string that is read is one by its production, and one by its production is read. Assumes nothing.
use mathlib.Core.Path.{◌≡◌, refl, sym, ap, ◌∙◌}
use mathlib.Core.Bool.{Bool, true, false}
use mathlib.Core.List.{List, []}
use Prim.Native.Nat.{ℕ, zero, suc, ◌+◌, ◌-◌, ◌<◌, ◌≤◌}
use native.Mathlib.Omega.{arith}
use borrow.Author.Tests.{eq-eqb, eqb-true}
use lib.Dec.{eqb}
use lib.ListN.{length, take, drop}
use Rattle.base.specs.Text.{byte_at, Got, got, fault}
use Rattle.jsontext.specs.Utf8.{utf8}
use Rattle.jsontext.specs.Strings.{Piece, closed, raw, code, bad, piece_at, with_front, string_from, string_at}
use Rattle.jsontext.specs.Productions.{CharAt, CharsAt, no_char, char, StringAt, string}
use Rattle.jsontext.proofs.Places.{stands_as, Reads, reads, none_read, read_is, read_as}
use Rattle.jsontext.proofs.CharProductions.{PieceIs, piece_is, PieceFor, as_raw_lem, as_code, char_piece, char_ahead}

module _ (t : List ℕ) where
  -- chars from place i on and the quotation mark after them
  record Closed (i : ℕ) (bs : List ℕ) (n : ℕ) : Type 0 where
    last : ℕ
    chars : CharsAt t i bs last
    quote : byte_at t last ≡ 34
    end : n ≡ last + 1

  -- WHAT IS READ

  front : {i m : ℕ} {bs : List ℕ} → CharAt t i bs m → {g : Got (List ℕ)} → Reads (Closed m) g → Reads (Closed i) (with_front bs g)
  front c (reads h) = reads (record { last = h.last; chars = char c h.chars; quote = h.quote; end = h.end })
  front c none_read = none_read

  chars_are : (f i : ℕ) → Reads (Closed i) (string_from f t i)
  unfolding string_from
  chars_are zero i = none_read
  chars_are (suc f) i = go (piece_at t i) (piece_is t i) (λ n. chars_are f n)
    where
      go : (p : Piece) → PieceIs t i p → ((n : ℕ) → Reads (Closed n) (string_from f t n))
          → Reads (Closed i) (elim p [ closed ↦ got [] (i + 1) | raw n ↦ with_front (take (n - i) (drop i t)) (string_from f t n) | code c n ↦ with_front (utf8 c) (string_from f t n) | bad x ↦ fault x ])
      go closed h r = reads (record { last = i; chars = no_char; quote = h; end = refl })
      go (raw n) h r = front h (r n)
      go (code c n) h r = front h (r n)
      go (bad x) h r = none_read

  string_is : (i : ℕ) → Reads (StringAt t i) (string_at t i)
  unfolding string_at
  string_is i = go (eqb (byte_at t i) 34) refl
    where
      go : (b : Bool) → eqb (byte_at t i) 34 ≡ b → Reads (StringAt t i) (elim b [ true ↦ string_from (length t - i) t (i + 1) | false ↦ fault i ])
      go true e = read_as (Closed (i + 1)) (StringAt t i) (λ bs n h. string (eqb-true _ _ e) h.chars h.quote h.end) (chars_are (length t - i) (i + 1))
      go false e = none_read

  -- A STRING THAT IS READ IS ONE BY ITS PRODUCTION.
  pub string_read : {i n : ℕ} {bs : List ℕ} → string_at t i ≡ got bs n → StringAt t i bs n
  string_read {i} {n} {bs} e = read_is (StringAt t i) bs n e (string_is i)

  -- WHAT IS ONE IS READ

  from_closed : (f i : ℕ) → byte_at t i ≡ 34 → string_from (suc f) t i ≡ got [] (i + 1)
  unfolding string_from
  from_closed f i e = rw (string_from, piece_at, eq-eqb (byte_at t i) 34 e)

  from_char : (f : ℕ) {i n : ℕ} {bs : List ℕ} → PieceFor t i bs n → string_from (suc f) t i ≡ with_front bs (string_from f t n)
  unfolding string_from
  from_char f {n = n} (as_raw_lem p q) = rw (string_from, p, q)
  from_char f {n = n} (as_code p q) = rw (string_from, p, q)

  -- so many pieces are enough as there are bytes left
  from_chars : {i m : ℕ} {bs : List ℕ} → CharsAt t i bs m → byte_at t m ≡ 34 → (f : ℕ) → length t ≤ i + f → string_from f t i ≡ got bs (m + 1)
  from_chars {i = i} no_char quote zero enough = absurd (omega (arith, stands_as t i 34 refl quote))
  from_chars {i = i} no_char quote (suc f) enough = from_closed f i quote
  from_chars (char c h) quote zero enough = absurd (omega (arith, char_ahead t c))
  from_chars (char {bs = bs} c h) quote (suc f) enough =
      let k = char_ahead t c in
      from_char f (char_piece t c) ∙ ap (with_front bs) (from_chars h quote f (omega arith))

  -- A STRING BY ITS PRODUCTION IS READ.
  pub read_string : {i n : ℕ} {bs : List ℕ} → StringAt t i bs n → string_at t i ≡ got bs n
  unfolding string_at
  read_string {i = i} (string {bs = bs} e h quote end) =
      rw (string_at, eq-eqb (byte_at t i) 34 e) (from_chars h quote (length t - i) (omega arith) ∙ ap (got bs) (sym end))

  -- so there is one of them at a place
  pub string_once : {i m n : ℕ} {x y : List ℕ} → StringAt t i x m → StringAt t i y n → (x ≡ y) × (m ≡ n)
  string_once {m = m} {n = n} {x = x} {y = y} a b = let e : got x m ≡ got y n = sym (read_string a) ∙ read_string b in (cc, cc)

  -- HOW FAR

  chars_ahead : {i n : ℕ} {bs : List ℕ} → CharsAt t i bs n → i ≤ n
  chars_ahead no_char = omega arith
  chars_ahead (char c h) = omega (arith, char_ahead t c, chars_ahead h)

  -- a string ends behind its place and inside the text
  pub string_ahead : {i n : ℕ} {bs : List ℕ} → StringAt t i bs n → (i < n) × (n ≤ length t)
  string_ahead (string {m = m} e h quote end) = let a = chars_ahead h in let b = stands_as t m 34 refl quote in (omega arith, omega arith)
