-- Bytes joined into a number, the first lowest: its digits to base 256 are the bytes. Assumes nothing.
use mathlib.Core.Path.{◌≡◌, refl, sym, ap, ap₂, ◌∙◌, subst}
use mathlib.Core.List.{List, [], ◌∷◌, ◌++◌}
use Prim.Native.Nat.{ℕ, zero, suc, ◌+◌, ◌-◌, ◌*◌, ◌/◌, ◌%◌, ◌^◌, ◌<◌, ◌≤◌}
use native.Mathlib.Nat.{pow-suc, one-le-pow, mul_assoc}
use native.Mathlib.Omega.{arith}
use lib.Arith.{digits_div, digits_mod}
use lib.Pow.{pow-add, field, shl-shr}
use lib.ListN.{length, take, drop, replicate, length-append, length-take, length-drop}
use Rattle.std.proofs.lemmas.List.{drop-replicate}
use lib.Seq.{drop-cons, take_all, take-take, get_or-take, get_or-drop}
use Rattle.std.specs.Int.{w64, from_le_bytes}
use Rattle.base.specs.Text.{byte_at}
use Rattle.jsontext.specs.Decoded.{join_bytes}
use Rattle.jsontext.specs.Kept.{Bytes}

-- one byte of a text more
module _ (t : List ℕ) where
  pub join_next : (n i j : ℕ) → j ≡ i + 1 → i < length t → join_bytes (take (suc n) (drop i t)) ≡ byte_at t i + 256 * join_bytes (take n (drop j t))
  join_next n i j e h = let z : j ≡ suc i = omega arith in rw (drop-cons t i 0 h, z)

  pub join_eight : (i : ℕ) → i + 8 ≤ length t → join_bytes (take 8 (drop i t))
      ≡ byte_at t i + byte_at t (i + 1) * 256 + byte_at t (i + 2) * 65536 + byte_at t (i + 3) * 16777216 + byte_at t (i + 4) * 4294967296 + byte_at t (i + 5) * 1099511627776
      + byte_at t (i + 6) * 281474976710656 + byte_at t (i + 7) * 72057594037927936
  join_eight i h =
      let a = join_next 7 i (i + 1) (omega arith) (omega arith) in
      let b = join_next 6 (i + 1) (i + 2) (omega arith) (omega arith) in
      let c = join_next 5 (i + 2) (i + 3) (omega arith) (omega arith) in
      let d = join_next 4 (i + 3) (i + 4) (omega arith) (omega arith) in
      let e = join_next 3 (i + 4) (i + 5) (omega arith) (omega arith) in
      let f = join_next 2 (i + 5) (i + 6) (omega arith) (omega arith) in
      let g = join_next 1 (i + 6) (i + 7) (omega arith) (omega arith) in
      let k = join_next 0 (i + 7) (i + 8) (omega arith) (omega arith) in
      omega arith

-- the first k of a list, and the others above them
-- the library's number of eight bytes
pub le_joined : (xs : List ℕ) → length xs ≡ 8 → from_le_bytes w64 xs ≡ join_bytes xs
le_joined xs l =
    let h = join_eight xs 0 (omega arith) in
    let e = ap join_bytes (take_all 8 xs (omega arith)) in
    omega (arith, h, e)

pub join_split : (k : ℕ) (xs : List ℕ) → join_bytes xs ≡ join_bytes (drop k xs) * 256 ^ k + join_bytes (take k xs)
join_split zero xs = omega arith
join_split (suc k) [] = omega arith
join_split (suc k) (x ∷ xs) =
    let e = join_split k xs in
    let f : join_bytes (drop k xs) * 256 ^ suc k ≡ join_bytes (drop k xs) * 256 ^ k * 256 = rw (pow-suc 256 k) (sym (mul_assoc (join_bytes (drop k xs)) (256 ^ k) 256)) in
    omega arith

pub bytes_tail : (x : ℕ) (xs : List ℕ) → Bytes (x ∷ xs) → Bytes xs
bytes_tail x xs h k l = h (suc k) (omega arith)

pub join_below : (k : ℕ) (xs : List ℕ) → Bytes xs → join_bytes (take k xs) < 256 ^ k
join_below zero xs h = omega arith
join_below (suc k) [] h = one-le-pow (suc k) 256 (omega arith)
join_below (suc k) (x ∷ xs) h =
    let e = join_below k xs (bytes_tail x xs h) in
    let f : 256 ^ suc k ≡ 256 ^ k * 256 = pow-suc 256 k in
    let b : x < 256 = h 0 (omega arith) in
    omega arith

module _ (k : ℕ) (xs : List ℕ) (h : Bytes xs) where
  pub join_take : join_bytes (take k xs) ≡ join_bytes xs % 256 ^ k
  join_take = sym (ap (λ (n : ℕ). n % 256 ^ k) (join_split k xs) ∙ digits_mod (join_bytes (drop k xs)) (join_below k xs h))

  pub join_drop : join_bytes (drop k xs) ≡ join_bytes xs / 256 ^ k
  join_drop = sym (ap (λ (n : ℕ). n / 256 ^ k) (join_split k xs) ∙ digits_div (join_bytes (drop k xs)) (join_below k xs h))

-- others behind them
pub join_append : (xs ys : List ℕ) → join_bytes (xs ++ ys) ≡ join_bytes ys * 256 ^ length xs + join_bytes xs
join_append [] ys = omega arith
join_append (x ∷ xs) ys =
    let e = join_append xs ys in
    let f : join_bytes ys * 256 ^ suc (length xs) ≡ join_bytes ys * 256 ^ length xs * 256 = rw (pow-suc 256 (length xs)) (sym (mul_assoc (join_bytes ys) (256 ^ length xs) 256)) in
    omega arith

pub join_whole : (n : ℕ) (xs : List ℕ) → Bytes xs → length xs ≤ n → join_bytes xs < 256 ^ n
join_whole n xs h l = subst (λ (ys : List ℕ). join_bytes ys < 256 ^ n) (take_all n xs l) (join_below n xs h)

-- as many bytes that come to the same number are the same
pub join_same : (xs ys : List ℕ) → Bytes xs → Bytes ys → length xs ≡ length ys → join_bytes xs ≡ join_bytes ys → xs ≡ ys
join_same [] [] h k l e = refl
join_same [] (y ∷ ys) h k l e = absurd (omega arith)
join_same (x ∷ xs) [] h k l e = absurd (omega arith)
join_same (x ∷ xs) (y ∷ ys) h k l e =
    let a : x < 256 = h 0 (omega arith) in
    let b : y < 256 = k 0 (omega arith) in
    let q : x ≡ y = omega arith in
    let r : join_bytes xs ≡ join_bytes ys = omega arith in
    ap₂ (λ (z : ℕ) (zs : List ℕ). z ∷ zs) q (join_same xs ys (bytes_tail x xs h) (bytes_tail y ys k) (omega arith) r)

-- a power of 2 as one of 256
pub pow_256 : (k : ℕ) → 2 ^ (8 * k) ≡ 256 ^ k
pow_256 zero = refl
pow_256 (suc k) = let z : 8 * suc k ≡ 8 * k + 8 = omega arith in rw (z, pow-add 2 (8 * k) 8, pow_256 k, pow-suc 256 k)

-- ---- parts of bytes are bytes
pub bytes_drop : (n : ℕ) (bs : List ℕ) → Bytes bs → Bytes (drop n bs)
bytes_drop n bs h i l = let e : n + i < length bs = omega (arith, length-drop n bs) in rw (get_or-drop n bs i 0) (h (n + i) e)

pub bytes_take : (n : ℕ) (bs : List ℕ) → Bytes bs → Bytes (take n bs)
bytes_take n bs h i l =
    let e = length-take n bs in
    let p : i < n = omega arith in
    let q : i < length bs = omega arith in
    rw (get_or-take n bs i 0 p) (h i q)

pub bytes_none : Bytes []
bytes_none i l = absurd (omega arith)

pub bytes_cons : (b : ℕ) (bs : List ℕ) → b < 256 → Bytes bs → Bytes (b ∷ bs)
bytes_cons b bs h k = λ i. go i
  where
    go : (i : ℕ) → i < suc (length bs) → byte_at (b ∷ bs) i < 256
    go zero l = h
    go (suc i) l = k i (omega arith)

pub bytes_append : (xs ys : List ℕ) → Bytes xs → Bytes ys → Bytes (xs ++ ys)
bytes_append [] ys h k = k
bytes_append (x ∷ xs) ys h k = bytes_cons x (xs ++ ys) (h 0 (omega arith)) (bytes_append xs ys (bytes_tail x xs h) k)

-- ---- the lowest n bytes of a word
-- the bytes shifted out leave the others
pub shifted : (x n : ℕ) → n ≤ 8 → x * 2 ^ (64 - 8 * n) % 2 ^ 64 / 2 ^ (64 - 8 * n) ≡ x % 2 ^ (8 * n)
shifted x n h =
    let e : 64 ≡ 8 * n + (64 - 8 * n) = omega arith in
    ap (λ (k : ℕ). x * 2 ^ (64 - 8 * n) % 2 ^ k / 2 ^ (64 - 8 * n)) e
    ∙ field (x * 2 ^ (64 - 8 * n)) (8 * n) (64 - 8 * n)
    ∙ ap (λ (k : ℕ). k % 2 ^ (8 * n)) (shl-shr x (64 - 8 * n))

pub word_cut : (t : List ℕ) → Bytes t → (i n w : ℕ) → n ≤ 8 → w ≡ join_bytes (take 8 (drop i t)) → w * 2 ^ (64 - 8 * n) % 2 ^ 64 / 2 ^ (64 - 8 * n) ≡ join_bytes (take n (drop i t))
word_cut t v i n w h e =
    shifted w n h
    ∙ ap₂ (λ (x y : ℕ). x % y) e (pow_256 n)
    ∙ sym (join_take n (take 8 (drop i t)) (bytes_take 8 (drop i t) (bytes_drop i t v)))
    ∙ ap join_bytes (take-take n 8 (drop i t) h)

-- ---- zeros behind fewer than eight bytes
join_zeros : (k : ℕ) → join_bytes (replicate k 0) ≡ 0
join_zeros zero = refl
join_zeros (suc k) = omega (arith, join_zeros k)

pub zeros_behind : (bs ys : List ℕ) → ys ≡ bs → length bs ≤ 8 → from_le_bytes w64 (ys ++ drop (length bs) (replicate 8 0)) ≡ join_bytes bs
zeros_behind bs ys e h =
    let zeros = drop (length bs) (replicate 8 0) in
    let none : join_bytes zeros ≡ 0 = ap join_bytes (drop-replicate (length bs) 8 0) ∙ join_zeros (8 - length bs) in
    let left = length-drop {A = ℕ} (length bs) (replicate 8 0) in
    let long : length (ys ++ zeros) ≡ 8 = omega (arith, length-append ys zeros, ap length e, left) in
    le_joined (ys ++ zeros) long ∙ join_append ys zeros ∙ ap (λ (z : ℕ). z * 256 ^ length ys + join_bytes ys) none ∙ omega (arith, ap join_bytes e)
