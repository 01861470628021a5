-- A short string whose bytes all stand for themselves: what it is, also where it stands again, and that it does where the words are the same. Assumes nothing.
use mathlib.Core.Path.{◌≡◌, refl, sym, ap, ◌∙◌}
use mathlib.Core.Bool.{false, ◌||◌}
use mathlib.Core.Logic.{⊎_elim}
use mathlib.Core.List.{List}
use Prim.Native.Nat.{ℕ, zero, suc, ◌+◌, ◌-◌, ◌*◌, ◌/◌, ◌%◌, ◌^◌, ◌<◌, ◌≤◌, zero-le}
use native.Mathlib.Numerals.{add-one}
use native.Mathlib.Omega.{arith}
use borrow.Author.Tests.{eqb-false, ltb-false}
use lib.Dec.{eqb, ltb}
use lib.ListN.{length, take, drop}
use lib.Seq.{get_or-take, get_or-drop}
use Rattle.base.specs.Text.{byte_at, got}
use Rattle.base.proofs.Bytes.{byte_inside}
use Rattle.jsontext.specs.Strings.{plain?, string_at}
use Rattle.jsontext.specs.Decoded.{join_bytes}
use Rattle.jsontext.specs.Scanned.{part}
use Rattle.jsontext.specs.StringAnswers.{Plains}
use Rattle.jsontext.specs.Kept.{Bytes}
use Rattle.jsontext.specs.Tokens.{quoted}
use Rattle.jsontext.specs.Shorts.{ShortAt, SameBytes}
use Rattle.jsontext.proofs.Places.{neither}
use Rattle.jsontext.proofs.Joining.{word_cut}
use Rattle.jsontext.proofs.PlainRuns.{below_or_not}
use Rattle.jsontext.proofs.Keeping.{part_length}
use Rattle.jsontext.proofs.Quoting.{quoted_inner, quoted_end, quoted_string, bytes_agree}

-- ---- the string that it is
module _ (t : List ℕ) (at slot end : ℕ) (v : ShortAt t at slot end) where
  abbrev key : List ℕ
  key = part t (at + 1) end

  size : length key ≡ end - (at + 1)
  size = sym (part_length t (at + 1) end v.plain.forward v.plain.inside)

  inside : end < length t
  inside = byte_inside t end 34 (sym v.closes) (omega arith)

  inner : (k : ℕ) → k < length key → byte_at key k ≡ byte_at t (at + 1 + k)
  inner k h = get_or-take (end - (at + 1)) (drop (at + 1) t) k 0 (omega (arith, size)) ∙ get_or-drop (at + 1) t k 0

  plain : Plains key 0 (length key)
  plain =
      record {
        forward = zero-le;
        inside = omega arith;
        each = λ k a b. ap plain? (inner k b) ∙ v.plain.each (at + 1 + k) (omega arith) (omega (arith, size));
      }

  between : (k : ℕ) → k < length key + 2 → byte_at t (at + k) ≡ byte_at (quoted key) k
  between zero h = let z : at + 0 ≡ at = omega arith in ap (byte_at t) z ∙ v.opens
  between (suc k) h = ⊎_elim front back (below_or_not k (length key))
    where
      front : k < length key → byte_at t (at + suc k) ≡ byte_at (quoted key) (suc k)
      front l =
          let z : at + suc k ≡ at + 1 + k = omega arith in
          ap (byte_at t) z ∙ sym (inner k l) ∙ sym (quoted_inner key k l) ∙ ap (byte_at (quoted key)) (add-one k)

      back : length key ≤ k → byte_at t (at + suc k) ≡ byte_at (quoted key) (suc k)
      back l =
          let y : at + suc k ≡ end = omega (arith, size, v.plain.forward) in
          let z : length key + 1 ≡ suc k = omega arith in
          ap (byte_at t) y ∙ v.closes ∙ sym (quoted_end key) ∙ ap (byte_at (quoted key)) z

  again : (j : ℕ) → SameBytes t at j (end + 1 - at) → string_at t j ≡ got key (j + (end + 1 - at))
  again j s =
      let n : end + 1 - at ≡ length key + 2 = omega (arith, size, v.plain.forward) in
      quoted_string t key j plain (omega (arith, s.inside)) (λ k h. s.same k (omega arith) ∙ between k h) (end + 1 - at) n

pub short_string : (t : List ℕ) (at slot end : ℕ) → ShortAt t at slot end → string_at t at ≡ got (part t (at + 1) end) (end + 1)
short_string t at slot end v =
    let z : at + (end + 1 - at) ≡ end + 1 = omega (arith, v.plain.forward) in
    again t at slot end v at (record { inside = omega (arith, inside t at slot end v); same = λ k h. refl }) ∙ ap (got (part t (at + 1) end)) z

pub short_again : (t : List ℕ) (at slot end j : ℕ) → ShortAt t at slot end → SameBytes t at j (end + 1 - at) → string_at t j ≡ got (part t (at + 1) end) (j + (end + 1 - at))
short_again t at slot end j v s = again t at slot end v j s

-- ---- the same bytes at two places, by their words
-- what the tests say
pub both_inside : (l i j n : ℕ) → 16 ≤ l → (((ltb (l - 16) i || ltb (l - 16) j) || eqb n 0) || ltb 16 n) ≡ false → (i + 16 ≤ l) × (j + 16 ≤ l) × (0 < n) × (n ≤ 16)
both_inside l i j n h e =
    let (f, few) = neither ((ltb (l - 16) i || ltb (l - 16) j) || eqb n 0) (ltb 16 n) e in
    let (g, some) = neither (ltb (l - 16) i || ltb (l - 16) j) (eqb n 0) f in
    let (first, second) = neither (ltb (l - 16) i) (ltb (l - 16) j) g in
    let a = ltb-false (l - 16) i first in
    let b = ltb-false (l - 16) j second in
    let c = eqb-false n 0 some in
    (omega (arith, a), omega (arith, b), omega (arith, c), ltb-false 16 n few)

module _ (t : List ℕ) (b : Bytes t) (i j n : ℕ) (first : i + 16 ≤ length t) (second : j + 16 ≤ length t) (v w : ℕ) (e : v ≡ join_bytes (take 8 (drop i t))) (f : w ≡ join_bytes (take 8 (drop j t))) where
  pub same_few : n < 8 → v * 2 ^ (64 - 8 * n) % 2 ^ 64 ≡ w * 2 ^ (64 - 8 * n) % 2 ^ 64 → SameBytes t i j n
  same_few h s =
      record {
        inside = omega arith;
        same = bytes_agree t t b b n j i (omega arith) (omega arith) (sym (word_cut t b j n w (omega arith) f) ∙ ap (λ (k : ℕ). k / 2 ^ (64 - 8 * n)) (sym s) ∙ word_cut t b i n v (omega arith) e);
      }

  pub same_many : (x y : ℕ) → 8 ≤ n → n ≤ 16 → v ≡ w → x ≡ join_bytes (take 8 (drop (i + n - 8) t)) → y ≡ join_bytes (take 8 (drop (j + n - 8) t)) → x ≡ y → SameBytes t i j n
  same_many x y h l s p q r =
      record {
        inside = omega arith;
        same = λ k o. ⊎_elim (bytes_agree t t b b 8 j i (omega arith) (omega arith) (sym f ∙ sym s ∙ e) k) (behind k o) (below_or_not k 8);
      }
    where
      -- counted from the last eight on
      from : (a k : ℕ) → 8 ≤ k → k < n → a + k ≡ a + n - 8 + (k - (n - 8))
      from a k m o = omega arith

      behind : (k : ℕ) → k < n → 8 ≤ k → byte_at t (j + k) ≡ byte_at t (i + k)
      behind k o m =
          ap (byte_at t) (from j k m o)
          ∙ bytes_agree t t b b 8 (j + n - 8) (i + n - 8) (omega arith) (omega arith) (sym q ∙ sym r ∙ p) (k - (n - 8)) (omega arith)
          ∙ ap (byte_at t) (sym (from i k m o))
