-- Bytes of two texts that agree and stand for themselves, word by word, and the string that they are between quotes. Assumes nothing.
use mathlib.Core.Path.{◌≡◌, refl, sym, ap, ap₂, ◌∙◌, subst}
use mathlib.Core.Bool.{true}
use mathlib.Core.List.{List, ◌++◌, map}
use Prim.Native.Nat.{ℕ, ◌+◌, ◌-◌, ◌*◌, ◌/◌, ◌%◌, ◌^◌, ◌<◌, ◌≤◌}
use native.Mathlib.Nat.{zero-div}
use native.Mathlib.Omega.{arith}
use lib.ListN.{length, take, drop, length-take, length-drop}
use lib.Seq.{get_or-take, get_or-drop}
use Rattle.base.specs.Text.{byte_at, got}
use Rattle.jsontext.specs.Strings.{plain?, string_at}
use Rattle.jsontext.specs.Decoded.{join_bytes}
use Rattle.jsontext.specs.Scanned.{part}
use Rattle.jsontext.specs.StringAnswers.{Plains, mark}
use Rattle.jsontext.specs.Scanned.{Scanned}
use Rattle.jsontext.specs.Compared.{Alike}
use Rattle.jsontext.specs.Kept.{Bytes}
use Rattle.jsontext.proofs.Ways.{piece_closed}
use Rattle.jsontext.proofs.PlainRuns.{plains_join}
use Rattle.jsontext.proofs.Scanning.{part_join, scan_start, scan_closed}
use Rattle.jsontext.proofs.Joining.{join_same, shifted, word_cut, bytes_take, bytes_drop}
use Rattle.jsontext.proofs.Bytewise.{plain_below}
use Rattle.jsontext.proofs.Comparing.{running_begin, running_alike}

-- ---- one stretch behind the other, at the front of the second text
module _ (s : List ℕ) (i : ℕ) (t : List ℕ) (n m o : ℕ) (e : o ≡ n + m) (v : Alike s i t 0 n) (w : Alike s (i + n) t n m) where
  pub alike_join : Alike s i t 0 o
  alike_join =
      let a : i + n + m ≡ i + o = omega arith in
      let b : n + m ≡ 0 + o = omega arith in
      let z : 0 + n ≡ n = omega arith in
      let p : Plains t 0 n = subst (Plains t 0) z v.second in
      record {
        first = subst (Plains s i) a (plains_join s i (i + n) v.first (i + n + m) w.first);
        second = subst (Plains t 0) b (plains_join t 0 n p (n + m) w.second);
        same =
            ap (part s i) (sym a)
            ∙ sym (part_join s i (i + n) (i + n + m) (omega arith) (omega arith))
            ∙ ap₂ (λ (x y : List ℕ). x ++ y) (v.same ∙ ap (part t 0) z) w.same
            ∙ part_join t 0 n (n + m) (omega arith) (omega arith)
            ∙ ap (part t 0) b;
      }

-- ---- words
-- the first n of eight bytes at two places
module _ (s : List ℕ) (i : ℕ) (t : List ℕ) (j n : ℕ) (few : n ≤ 8) (first : i + 8 ≤ length s) (second : j + 8 ≤ length t) where
  eight : (l : List ℕ) (k : ℕ) → k + 8 ≤ length l → length (take n (drop k l)) ≡ n
  eight l k h = omega (arith, length-take n (drop k l), length-drop k l)

  module _ (p : Bytes s) (q : Bytes t) (v w : ℕ) (e : v ≡ join_bytes (take 8 (drop i s))) (f : w ≡ join_bytes (take 8 (drop j t)))
      (same : v * 2 ^ (64 - 8 * n) % 2 ^ 64 ≡ w * 2 ^ (64 - 8 * n) % 2 ^ 64) where
    agree : take n (drop i s) ≡ take n (drop j t)
    agree =
        join_same (take n (drop i s)) (take n (drop j t)) (bytes_take n (drop i s) (bytes_drop i s p)) (bytes_take n (drop j t) (bytes_drop j t q)) (eight s i first ∙ sym (eight t j second))
        (sym (word_cut s p i n v few e) ∙ ap (λ (k : ℕ). k / 2 ^ (64 - 8 * n)) same ∙ word_cut t q j n w few f)

    module _ (m : ℕ) (g : m ≡ join_bytes (map mark (take 8 (drop j t)))) (none : m * 2 ^ (64 - 8 * n) % 2 ^ 64 ≡ 0) where
      plain_there : (k : ℕ) → k < n → plain? (byte_at (drop j t) k) ≡ true
      plain_there k h =
          let z : m % 2 ^ (8 * n) ≡ 0 = sym (shifted m n few) ∙ ap (λ (x : ℕ). x / 2 ^ (64 - 8 * n)) none ∙ zero-div (2 ^ (64 - 8 * n)) in
          ap plain? (sym (get_or-take 8 (drop j t) k 0 (omega arith)))
          ∙ plain_below (take 8 (drop j t)) m g n z k (omega (arith, length-take 8 (drop j t), length-drop j t)) h

      -- the same byte stands at both places
      both : (k : ℕ) → k < n → byte_at (drop i s) k ≡ byte_at (drop j t) k
      both k h = sym (get_or-take n (drop i s) k 0 h) ∙ ap (λ (l : List ℕ). byte_at l k) agree ∙ get_or-take n (drop j t) k 0 h

      plains_at : (l : List ℕ) (a : ℕ) → a + 8 ≤ length l → ((k : ℕ) → k < n → plain? (byte_at (drop a l) k) ≡ true) → Plains l a (a + n)
      plains_at l a h f = record { forward = omega arith; inside = omega arith; each = λ k b c. go k b (omega arith) }
        where
          go : (k : ℕ) → a ≤ k → k - a < n → plain? (byte_at l k) ≡ true
          go k b c =
              let z : a + (k - a) ≡ k = omega arith in
              ap (λ (x : ℕ). plain? (byte_at l x)) (sym z) ∙ ap plain? (sym (get_or-drop a l (k - a) 0)) ∙ f (k - a) c

      pub alike_word : Alike s i t j n
      alike_word =
          let a : i + n - i ≡ n = omega arith in
          let b : j + n - j ≡ n = omega arith in
          record {
            first = plains_at s i first (λ k h. ap plain? (both k h) ∙ plain_there k h);
            second = plains_at t j second plain_there;
            same = ap (λ (k : ℕ). take k (drop i s)) a ∙ agree ∙ ap (λ (k : ℕ). take k (drop j t)) (sym b);
          }

-- ---- between quotes
pub between_quotes : (t : List ℕ) (at : ℕ) (bytes : List ℕ) (n : ℕ) → byte_at t at ≡ 34 → byte_at t (at + n + 1) ≡ 34 → Alike t (at + 1) bytes 0 n → string_at t at ≡ got (take n bytes) (at + n + 2)
between_quotes t at bytes n e f v =
    let z : at + 1 + n ≡ at + n + 1 = omega arith in
    let y : at + 1 + n + 1 ≡ at + n + 2 = omega arith in
    let closed-here = sym (piece_closed t (at + 1 + n) (byte_at t (at + 1 + n)) refl (ap (byte_at t) z ∙ f)) in
    let x : 0 + n ≡ n = omega arith in
    let scanned = subst (λ (m : ℕ). Scanned t at (at + 1 + n) (take m bytes)) x (running_alike t at bytes (at + 1) 0 (running_begin t at bytes (scan_start t at (byte_at t at) refl e)) n v).scanned in
    scan_closed t at (at + 1 + n) (take n bytes) scanned closed-here ∙ ap (got (take n bytes)) y
