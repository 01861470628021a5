-- What is kept of bytes as more come behind them, and the slot that comes of it. Assumes nothing.
use mathlib.Core.Path.{◌≡◌, sym, ap, ap₂, ◌∙◌}
use mathlib.Core.List.{List, [], ◌∷◌, ◌++◌, append_assoc}
use Prim.Native.Nat.{ℕ, zero, suc, ◌+◌, ◌-◌, ◌*◌, ◌/◌, ◌%◌, ◌^◌, ◌<◌, ◌≤◌, min}
use native.Mathlib.Nat.{mul-mod_left}
use native.Mathlib.Omega.{arith}
use lib.Bits.{bit_or, or_shifted_r}
use lib.Pow.{shl_exact, shl-shr, shr_lt, mod-pow-add}
use lib.ListN.{length, take, drop, replicate, length-append, length-take, length-drop}
use lib.Seq.{take-nil, take_all, take-length, take-take, take-append-le, take-append-add, drop-append-le, drop-append-add, drop-drop}
use Rattle.base.specs.Text.{byte_at}
use Rattle.jsontext.specs.Decoded.{join_bytes, first_eight, last_eight, hashed, text_slot}
use Rattle.jsontext.specs.declared.kept.Kept.{Kept}
use Rattle.jsontext.specs.Kept.{Bytes, Keeps}
use Rattle.jsontext.specs.Scanned.{part}
use Rattle.jsontext.proofs.Joining.{join_take, join_drop, join_append, join_whole, pow_256, bytes_take, bytes_drop, bytes_append}

-- ---- the last eight of bytes and more bytes
abbrev ending : List ℕ → List ℕ
ending bs = drop (length bs) (replicate 8 0 ++ bs)

ending_eight : (bs : List ℕ) → length (ending bs) ≡ 8
ending_eight bs = omega (arith, length-drop (length bs) (replicate 8 0 ++ bs), length-append (replicate 8 0) bs)

ending_bytes : (bs : List ℕ) → Bytes bs → Bytes (ending bs)
ending_bytes bs h = bytes_drop (length bs) (replicate 8 0 ++ bs) (bytes_append (replicate 8 0) bs none h)
  where
    none : Bytes (replicate 8 0)
    none i l = go 8 i
      where
        go : (n i : ℕ) → byte_at (replicate n 0) i < 256
        go zero i = omega arith
        go (suc n) zero = omega arith
        go (suc n) (suc i) = go n i

module _ (bs xs : List ℕ) where
  ending_more : ending (bs ++ xs) ≡ drop (length xs) (ending bs ++ xs)
  ending_more =
      let l : length (bs ++ xs) ≡ length bs + length xs = length-append bs xs in
      let a : drop (length bs) ((replicate 8 0 ++ bs) ++ xs) ≡ ending bs ++ xs = drop-append-le (length bs) (replicate 8 0 ++ bs) xs (omega (arith, length-append (replicate 8 0) bs)) in
      ap (λ (n : ℕ). drop n (replicate 8 0 ++ bs ++ xs)) l
      ∙ ap (drop (length bs + length xs)) (sym (append_assoc (replicate 8 0) bs xs))
      ∙ sym (drop-drop (length xs) (length bs) ((replicate 8 0 ++ bs) ++ xs))
      ∙ ap (drop (length xs)) a

  -- eight or more: theirs
  pub last_long : 8 ≤ length xs → last_eight (bs ++ xs) ≡ join_bytes (drop (length xs - 8) xs)
  last_long h =
      let n : length xs ≡ length (ending bs) + (length xs - 8) = omega (arith, ending_eight bs) in
      ap join_bytes (ending_more ∙ ap (λ (m : ℕ). drop m (ending bs ++ xs)) n ∙ drop-append-add (ending bs) xs (length xs - 8))

  -- fewer: those before move up
  last_few : Bytes bs → length xs ≤ 8 → last_eight (bs ++ xs) ≡ join_bytes xs * 256 ^ (8 - length xs) + last_eight bs / 256 ^ length xs
  last_few v h =
      let m : length (drop (length xs) (ending bs)) ≡ 8 - length xs = omega (arith, length-drop (length xs) (ending bs), ending_eight bs) in
      ap join_bytes (ending_more ∙ drop-append-le (length xs) (ending bs) xs (omega (arith, ending_eight bs)))
      ∙ join_append (drop (length xs) (ending bs)) xs
      ∙ ap₂ (λ (p q : ℕ). join_bytes xs * 256 ^ p + q) m (join_drop (length xs) (ending bs) (ending_bytes bs v))

  -- the same by shifts
  pub last_shifted : (w n z : ℕ) → Bytes bs → Bytes xs → n ≡ length xs → n < 8 → w ≡ join_bytes xs → z ≡ last_eight bs
      → bit_or (z / 2 ^ (8 * n)) (w * 2 ^ (64 - 8 * n) % 2 ^ 64) ≡ last_eight (bs ++ xs)
  last_shifted w n z v u c l e f =
      let below : w < 2 ^ (8 * n) = rw (e, pow_256 n) (join_whole n xs u (omega arith)) in
      let sum : 64 - 8 * n + 8 * n ≡ 64 = omega arith in
      let all : z < 2 ^ (64 - 8 * n + 8 * n) = rw (sum, f) (join_whole 8 (ending bs) (ending_bytes bs v) (omega (arith, ending_eight bs))) in
      let up : w * 2 ^ (64 - 8 * n) % 2 ^ 64 ≡ w * 2 ^ (64 - 8 * n) = shl_exact (8 * n) (64 - 8 * n) 64 below (omega arith) in
      let down : z / 2 ^ (8 * n) < 2 ^ (64 - 8 * n) = shr_lt (64 - 8 * n) (8 * n) all in
      let q : 64 - 8 * n ≡ 8 * (8 - n) = omega arith in
      ap (bit_or (z / 2 ^ (8 * n))) up
      ∙ or_shifted_r w (64 - 8 * n) (z / 2 ^ (8 * n)) down
      ∙ rw (q, pow_256 (8 - n), pow_256 n, e, f, c) (sym (last_few v (omega arith)))

-- ---- the first eight
module _ (bs xs : List ℕ) (v : Bytes bs) (u : Bytes xs) where
  -- fewer than eight: behind them
  first_few : length bs ≤ 8 → first_eight (bs ++ xs) ≡ first_eight xs % 256 ^ (8 - length bs) * 256 ^ length bs + join_bytes bs
  first_few h =
      let n : 8 ≡ length bs + (8 - length bs) = omega arith in
      ap join_bytes (ap (λ (m : ℕ). take m (bs ++ xs)) n ∙ take-append-add bs xs (8 - length bs))
      ∙ join_append bs (take (8 - length bs) xs)
      ∙ ap (λ (m : ℕ). m * 256 ^ length bs + join_bytes bs)
      (ap join_bytes (sym (take-take (8 - length bs) 8 xs (omega arith))) ∙ join_take (8 - length bs) (take 8 xs) (bytes_take 8 xs u))

  -- the same by a shift
  pub first_shifted : (a b f : ℕ) → f ≡ length bs → f < 8 → a ≡ first_eight bs → b ≡ first_eight xs → bit_or a (b * 2 ^ (8 * f) % 2 ^ 64) ≡ first_eight (bs ++ xs)
  first_shifted a b f c l d e =
      let sum : 64 ≡ 64 - 8 * f + 8 * f = omega arith in
      let up : b * 2 ^ (8 * f) % 2 ^ 64 ≡ b % 2 ^ (64 - 8 * f) * 2 ^ (8 * f) =
      ap (λ (m : ℕ). b * 2 ^ (8 * f) % 2 ^ m) sum
      ∙ mod-pow-add (b * 2 ^ (8 * f)) (64 - 8 * f) (8 * f)
      ∙ ap₂ (λ (x y : ℕ). x % 2 ^ (64 - 8 * f) * 2 ^ (8 * f) + y) (shl-shr b (8 * f)) (mul-mod_left b (2 ^ (8 * f)))
      ∙ omega arith in
      let all : a ≡ join_bytes bs = d ∙ ap join_bytes (take_all 8 bs (omega arith)) in
      let below : a < 2 ^ (8 * f) = rw (all, pow_256 f) (join_whole f bs v (omega arith)) in
      let q : 64 - 8 * f ≡ 8 * (8 - f) = omega arith in
      ap (bit_or a) up
      ∙ or_shifted_r (b % 2 ^ (64 - 8 * f)) (8 * f) a below
      ∙ rw (q, pow_256 (8 - f), pow_256 f, all, e, c) (sym (first_few (omega arith)))

  pub first_kept : 8 ≤ length bs → first_eight bs ≡ first_eight (bs ++ xs)
  first_kept h = ap join_bytes (sym (take-append-le 8 bs xs h))

-- ---- all that is kept
module _ (bs xs : List ℕ) (k : Kept) (v : Keeps bs k) (u : Bytes xs) (n b z c : ℕ) (count : n ≡ length xs) (counted : c ≡ (k.count + n % 2 ^ 32) % 2 ^ 32) (front : b ≡ first_eight xs) (last : z ≡ last_eight (bs ++ xs)) where
  more : length (bs ++ xs) ≡ length bs + length xs
  more = length-append bs xs

  all_counted : c ≡ length (bs ++ xs) % 2 ^ 32
  all_counted = omega (arith, v.count, more)

  pub keep_short : (m : ℕ) → k.few < 8 → m ≡ min n (8 - k.few) → (r : Kept) → r.count ≡ c → r.few ≡ k.few + m → r.first ≡ bit_or k.first (b * 2 ^ (8 * k.few) % 2 ^ 64) → r.last ≡ z → Keeps (bs ++ xs) r
  keep_short m h e r c_is f_is a_is z_is =
      let f : k.few ≡ length bs = omega (arith, v.few) in
      record {
        bytes = bytes_append bs xs v.bytes u;
        count = c_is ∙ all_counted;
        few = omega (arith, v.few, more);
        first = a_is ∙ first_shifted bs xs v.bytes u k.first b k.few f h v.first front;
        last = z_is ∙ last;
      }

  pub keep_long : 8 ≤ k.few → (r : Kept) → r.count ≡ c → r.few ≡ k.few → r.first ≡ k.first → r.last ≡ z → Keeps (bs ++ xs) r
  keep_long h r c_is f_is a_is z_is =
      let f : 8 ≤ length bs = omega (arith, v.few) in
      record {
        bytes = bytes_append bs xs v.bytes u;
        count = c_is ∙ all_counted;
        few = omega (arith, v.few, more);
        first = a_is ∙ v.first ∙ first_kept bs xs v.bytes u f;
        last = z_is ∙ last;
      }

-- ---- bytes of a text
pub drop_take : (k n : ℕ) (l : List ℕ) → drop k (take (k + n) l) ≡ take n (drop k l)
drop_take zero n l = let z : 0 + n ≡ n = omega arith in rw z
drop_take (suc k) n [] = ap (drop (suc k)) (take-nil {A = ℕ} (suc k + n)) ∙ sym (take-nil {A = ℕ} n)
drop_take (suc k) n (x ∷ l) = let z : suc k + n ≡ suc (k + n) = omega arith in rw z (drop_take k n l)

module _ (t : List ℕ) (at end : ℕ) (order : at ≤ end) (inside : end ≤ length t) where
  pub part_length : end - at ≡ length (part t at end)
  part_length = omega (arith, length-take (end - at) (drop at t), length-drop at t)

  pub part_bytes : Bytes t → Bytes (part t at end)
  part_bytes v = bytes_take (end - at) (drop at t) (bytes_drop at t v)

  -- the words at both ends of eight or more
  module _ (h : 8 ≤ end - at) where
    pub part_front : (w : ℕ) → w ≡ join_bytes (take 8 (drop at t)) → w ≡ first_eight (part t at end)
    part_front w e = e ∙ ap join_bytes (sym (take-take 8 (end - at) (drop at t) h))

    pub part_last : (bs : List ℕ) (w : ℕ) → w ≡ join_bytes (take 8 (drop (end - 8) t)) → w ≡ last_eight (bs ++ part t at end)
    part_last bs w e =
        let n : end - at ≡ end - at - 8 + 8 = omega arith in
        let m : at + (end - at - 8) ≡ end - 8 = omega arith in
        let l : length (part t at end) - 8 ≡ end - at - 8 = omega (arith, part_length) in
        let q : drop (length (part t at end) - 8) (part t at end) ≡ take 8 (drop (end - 8) t) =
        ap (λ (k : ℕ). drop k (part t at end)) l
        ∙ ap (λ (k : ℕ). drop (end - at - 8) (take k (drop at t))) n
        ∙ drop_take (end - at - 8) 8 (drop at t)
        ∙ ap (take 8) (drop-drop (end - at - 8) at t ∙ ap (λ (k : ℕ). drop k t) m) in
        e ∙ ap join_bytes (sym q) ∙ sym (last_long bs (part t at end) (omega (arith, part_length)))

pub part_all : (t : List ℕ) → part t 0 (length t) ≡ t
part_all t = let z : length t - 0 ≡ length t = omega arith in rw z (take-length t)

-- ---- the slot
pub slot_kept : (bs : List ℕ) (k : Kept) → Keeps bs k → hashed k.count k.first k.last % 2 ^ 32 / 2 ^ 21 ≡ text_slot bs
unfolding text_slot
slot_kept bs k v = rw (v.count, v.first, v.last)
