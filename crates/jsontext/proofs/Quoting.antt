-- A short string as a token: how it is made of bytes, and that where the words of a text are its words, the string there is those bytes. Assumes nothing.
use mathlib.Core.Path.{◌≡◌, refl, sym, ap, ap₂, ◌∙◌, subst}
use mathlib.Core.Bool.{true, not, ◌&&◌}
use mathlib.Core.Logic.{⊎_elim}
use mathlib.Core.List.{List, [], ◌∷◌, ◌++◌}
use Prim.Native.Nat.{ℕ, zero, suc, ◌+◌, ◌-◌, ◌*◌, ◌/◌, ◌%◌, ◌^◌, ◌<◌, ◌≤◌, zero-le}
use native.Mathlib.Numerals.{add-one}
use native.Mathlib.Omega.{arith}
use borrow.Author.Tests.{ltb-true}
use lib.Dec.{eqb, leb, ltb}
use lib.Pow.{shl_exact, shl-shr}
use lib.ListN.{length, take, drop, set, length-append, length-take, length-drop, length-set, get_or-append}
use lib.Seq.{take_all, take-length, take-take, get_or-take, get_or-drop, get_or-append_seam}
use borrow.Rule.Slice.PartMut.{put_mid}
use Rattle.std.proofs.lemmas.List.{take_more_set}
use Rattle.std.proofs.lemmas.Slice.{take-put_mid}
use Rattle.base.specs.Text.{byte_at, got}
use Rattle.jsontext.specs.Strings.{plain?, string_at}
use Rattle.jsontext.specs.Decoded.{join_bytes}
use Rattle.jsontext.specs.StringAnswers.{Plains}
use Rattle.jsontext.specs.Compared.{Alike}
use Rattle.jsontext.specs.Kept.{Bytes}
use Rattle.jsontext.specs.Tokens.{quoted, TokenOf}
use Rattle.jsontext.proofs.Places.{both}
use Rattle.jsontext.proofs.Joining.{join_same, join_whole, pow_256, word_cut, bytes_take, bytes_drop, bytes_none, bytes_cons, bytes_append}
use Rattle.jsontext.proofs.PlainRuns.{below_or_not}
use Rattle.jsontext.proofs.Keeping.{drop_take}
use Rattle.jsontext.proofs.Agreeing.{alike_none, alike_more}
use Rattle.jsontext.proofs.Writing.{between_quotes}

plain_byte : (b : ℕ) → plain? b ≡ true → b < 256
unfolding plain?
plain_byte b e = let l = ltb-true b 128 (both (not (eqb b 34) && not (eqb b 92) && leb 32 b) (ltb b 128) e).1 in omega arith

-- ---- bytes between quotes
module _ (key : List ℕ) where
  quoted_length : length (quoted key) ≡ length key + 2
  quoted_length = omega (arith, length-append key (34 ∷ []))

  pub quoted_inner : (k : ℕ) → k < length key → byte_at (quoted key) (k + 1) ≡ byte_at key k
  quoted_inner k h = ap (byte_at (quoted key)) (add-one k) ∙ get_or-append key (34 ∷ []) 0 k h

  pub quoted_end : byte_at (quoted key) (length key + 1) ≡ 34
  quoted_end = ap (byte_at (quoted key)) (add-one (length key)) ∙ get_or-append_seam key 34 [] 0

  quoted_bytes : Plains key 0 (length key) → Bytes (quoted key)
  quoted_bytes v =
      bytes_cons 34 (key ++ 34 ∷ []) (omega arith)
      (bytes_append key (34 ∷ []) (λ i l. plain_byte (byte_at key i) (v.each i zero-le l)) (bytes_cons 34 [] (omega arith) bytes_none))

-- ---- a text that agrees with them
module _ (t key : List ℕ) (at : ℕ) (plain : Plains key 0 (length key)) (inside : at + (length key + 2) ≤ length t) (same : (k : ℕ) → k < length key + 2 → byte_at t (at + k) ≡ byte_at (quoted key) k) where
  inner : (k : ℕ) → k < length key → byte_at t (at + 1 + k) ≡ byte_at key k
  inner k h =
      let z : at + 1 + k ≡ at + (k + 1) = omega arith in
      ap (byte_at t) z ∙ same (k + 1) (omega arith) ∙ quoted_inner key k h

  alike_up_to : (n : ℕ) → n ≤ length key → Alike t (at + 1) key 0 n
  alike_up_to zero h = alike_none t (at + 1) key 0 (omega arith) zero-le
  alike_up_to (suc n) h =
      let z : 0 + n ≡ n = omega arith in
      let e = inner n (omega arith) in
      subst (Alike t (at + 1) key 0) (add-one n)
      (alike_more t (at + 1) key 0 n (byte_at t (at + 1 + n)) (byte_at key (0 + n)) (alike_up_to n (omega arith)) refl (ap plain? e ∙ plain.each n zero-le (omega arith)) refl (ap (byte_at key) z ∙ sym e))

  pub quoted_string : (n : ℕ) → n ≡ length key + 2 → string_at t at ≡ got key (at + n)
  quoted_string n c =
      let a : at ≡ at + 0 = omega arith in
      let b : at + length key + 1 ≡ at + (length key + 1) = omega arith in
      let d : at + length key + 2 ≡ at + n = omega arith in
      between_quotes t at key (length key) (ap (byte_at t) a ∙ same 0 (omega arith)) (ap (byte_at t) b ∙ same (length key + 1) (omega arith) ∙ quoted_end key) (alike_up_to (length key) (omega arith))
      ∙ ap₂ (λ (bs : List ℕ) (m : ℕ). got bs m) (take-length key) d

-- ---- words that agree
pub bytes_agree : (t q : List ℕ) → Bytes t → Bytes q → (m i j : ℕ) → i + m ≤ length t → j + m ≤ length q → join_bytes (take m (drop i t)) ≡ join_bytes (take m (drop j q)) → (k : ℕ) → k < m → byte_at t (i + k) ≡ byte_at q (j + k)
bytes_agree t q b c m i j h l e k o =
    let p : length (take m (drop i t)) ≡ length (take m (drop j q)) = omega (arith, length-take m (drop i t), length-drop i t, length-take m (drop j q), length-drop j q) in
    let x = join_same (take m (drop i t)) (take m (drop j q)) (bytes_take m (drop i t) (bytes_drop i t b)) (bytes_take m (drop j q) (bytes_drop j q c)) p e in
    sym (get_or-take m (drop i t) k 0 o ∙ get_or-drop i t k 0) ∙ ap (λ (xs : List ℕ). byte_at xs k) x ∙ get_or-take m (drop j q) k 0 o ∙ get_or-drop j q k 0

module _ (t : List ℕ) (b : Bytes t) (at first last n : ℕ) (room : at + 16 ≤ length t) (key : List ℕ) (v : TokenOf key first last n) (w : ℕ) (e : w ≡ join_bytes (take 8 (drop at t))) where
  agree : (m i j : ℕ) → i + m ≤ length t → j + m ≤ n → join_bytes (take m (drop i t)) ≡ join_bytes (take m (drop j (quoted key))) → (k : ℕ) → k < m → byte_at t (i + k) ≡ byte_at (quoted key) (j + k)
  agree m i j h l = bytes_agree t (quoted key) b (quoted_bytes key v.plain) m i j h (omega (arith, quoted_length key, v.count))

  agree_first : (m : ℕ) → at + m ≤ length t → m ≤ n → join_bytes (take m (drop at t)) ≡ join_bytes (take m (quoted key)) → (k : ℕ) → k < m → byte_at t (at + k) ≡ byte_at (quoted key) k
  agree_first m h l q k o = let z : 0 + k ≡ k = omega arith in agree m at 0 h (omega arith) q k o ∙ ap (byte_at (quoted key)) z

  string_of : ((k : ℕ) → k < n → byte_at t (at + k) ≡ byte_at (quoted key) k) → string_at t at ≡ got key (at + n)
  string_of f = quoted_string t key at v.plain (omega (arith, v.count, v.few)) (λ k l. f k (omega (arith, v.count))) n v.count

  pub short_string : n < 8 → w * 2 ^ (64 - 8 * n) % 2 ^ 64 ≡ first → string_at t at ≡ got key (at + n)
  short_string h s =
      let all : take n (quoted key) ≡ quoted key = take_all n (quoted key) (omega (arith, quoted_length key, v.count)) in
      let q : join_bytes (take n (drop at t)) ≡ join_bytes (take n (quoted key)) =
      sym (word_cut t b at n w (omega arith) e) ∙ ap (λ (x : ℕ). x / 2 ^ (64 - 8 * n)) (s ∙ v.short h) ∙ shl-shr (join_bytes (quoted key)) (64 - 8 * n) ∙ ap join_bytes (sym all) in
      string_of (agree_first n (omega (arith, v.few)) (omega arith) q)

  pub long_string : (z : ℕ) → 8 ≤ n → w ≡ first → z ≡ join_bytes (take 8 (drop (at + n - 8) t)) → z ≡ last → string_at t at ≡ got key (at + n)
  long_string z h s f u = string_of (λ k l. ⊎_elim (agree_first 8 (omega arith) h (sym e ∙ s ∙ v.front h) k) (behind k l) (below_or_not k 8))
    where
      behind : (k : ℕ) → k < n → 8 ≤ k → byte_at t (at + k) ≡ byte_at (quoted key) k
      behind k l o =
          let x : at + k ≡ at + n - 8 + (k - (n - 8)) = omega arith in
          let y : n - 8 + (k - (n - 8)) ≡ k = omega (arith, v.few) in
          ap (byte_at t) x ∙ agree 8 (at + n - 8) (n - 8) (omega (arith, v.few)) (omega arith) (sym f ∙ u ∙ v.back h) (k - (n - 8)) (omega arith) ∙ ap (byte_at (quoted key)) y

-- ---- the token of bytes
-- bytes written behind a quote, and a quote behind them
pub quoted_put : (key out ys : List ℕ) (k : ℕ) → ys ≡ key → k ≡ length key → length key + 2 ≤ length out → take (length key + 2) (set (put_mid 1 k (set out 0 34) ys) (length key + 1) 34) ≡ quoted key
quoted_put key out ys k e n h =
    let zs = put_mid 1 k (set out 0 34) ys in
    let l : length ys ≡ length key = ap length e in
    let room : length key + 1 < length zs =
    omega (arith, length-append (take 1 (set out 0 34)) (ys ++ drop k (drop 1 (set out 0 34))), length-append ys (drop k (drop 1 (set out 0 34))), length-take 1 (set out 0 34), length-drop k (drop 1 (set out 0 34)), length-drop 1 (set out 0 34), length-set out 0 34) in
    let z : length key + 2 ≡ length key + 1 + 1 = omega arith in
    ap (λ (m : ℕ). take m (set zs (length key + 1) 34)) z
    ∙ take_more_set zs (length key + 1) 34 room
    ∙ ap (λ (l : List ℕ). l ++ 34 ∷ []) (take-put_mid 1 k (set out 0 34) ys (length key + 1) (omega arith) (omega (arith, length-set out 0 34)) ∙ ap₂ (λ (a b : List ℕ). a ++ b) (take_more_set out 0 34 (omega arith)) e)

module _ (key all : List ℕ) (n : ℕ) (count : n ≡ length key + 2) (few : n ≤ 16) (plain : Plains key 0 (length key)) (put : take (length key + 2) all ≡ quoted key) where
  is_quoted : take n all ≡ quoted key
  is_quoted = ap (λ (k : ℕ). take k all) count ∙ put

  pub short_token : (w : ℕ) → n < 8 → w ≡ join_bytes (take n all) → TokenOf key (w * 2 ^ (64 - 8 * n) % 2 ^ 64) 0 n
  short_token w h e =
      let q : w ≡ join_bytes (quoted key) = e ∙ ap join_bytes is_quoted in
      let b : join_bytes (quoted key) < 2 ^ (8 * n) =
      subst (λ (x : ℕ). join_bytes (quoted key) < x) (sym (pow_256 n)) (join_whole n (quoted key) (quoted_bytes key plain) (omega (arith, quoted_length key))) in
      record {
        plain = plain;
        count = count;
        few = few;
        short = λ _. ap (λ (x : ℕ). x * 2 ^ (64 - 8 * n) % 2 ^ 64) q ∙ shl_exact (8 * n) (64 - 8 * n) 64 b (omega arith);
        front = λ l. absurd (omega arith);
        back = λ l. absurd (omega arith);
      }

  pub long_token : (w z : ℕ) → 8 ≤ n → w ≡ join_bytes (take 8 all) → z ≡ join_bytes (take 8 (drop (n - 8) all)) → TokenOf key w z n
  long_token w z h e f =
      let s : n ≡ n - 8 + 8 = omega arith in
      let behind : drop (n - 8) (quoted key) ≡ take 8 (drop (n - 8) all) =
      ap (drop (n - 8)) (sym is_quoted) ∙ ap (λ (k : ℕ). drop (n - 8) (take k all)) s ∙ drop_take (n - 8) 8 all in
      record {
        plain = plain;
        count = count;
        few = few;
        short = λ l. absurd (omega arith);
        front = λ _. e ∙ ap join_bytes (sym (take-take 8 n all h) ∙ ap (take 8) is_quoted);
        back = λ _. f ∙ ap join_bytes (sym (take-take 8 8 (drop (n - 8) all) (omega arith)) ∙ ap (take 8) (sym behind));
      }
