-- Operations on words that work on each byte apart, and the zeros below a word's lowest mark. Assumes nothing.
use mathlib.Core.Path.{◌≡◌, refl, sym, ap, ap₂, ◌∙◌}
use mathlib.Core.Bool.{Bool, true, false, cond}
use mathlib.Core.List.{List, [], ◌∷◌, map}
use Prim.Native.Nat.{ℕ, zero, suc, ◌+◌, ◌-◌, ◌*◌, ◌/◌, ◌%◌, ◌^◌, ◌<◌, ◌≤◌}
use native.Mathlib.Nat.{zero-mod}
use native.Mathlib.Numerals.{add-one}
use native.Mathlib.Omega.{arith}
use lib.Bits.{bit_and, bit_or, bit_xor, and_block, or_block, xor_block, and_lt, and_le_l, and_le_r, or_lt, xor_lt, or_mod, xor_mod, or_add_and, xor_add_and}
use lib.Count.{under, count_trailing_zeros, trailing_le}
use lib.Pow.{mod-pow-add, mod-mod-pow}
use lib.ListN.{length, take, drop, get_or, replicate, length-take, length-drop}
use lib.Seq.{get_or-take, get_or-drop}
use Rattle.model.specs.Lists.{tab}
use Rattle.model.proofs.Tab.{tab_at}
use Rattle.base.specs.Text.{byte_at}
use Rattle.jsontext.specs.Strings.{plain?}
use Rattle.jsontext.specs.Decoded.{join_bytes}
use Rattle.jsontext.specs.Kept.{Bytes}
use Rattle.jsontext.specs.StringAnswers.{Plains, mark}
use Rattle.jsontext.proofs.Joining.{bytes_tail, join_take, bytes_take, bytes_drop, pow_256}

-- ---- a word whose bytes are a function of the bytes xs
pub record Spread (xs : List ℕ) (n : ℕ) (f : ℕ → ℕ) : Type 0 where
  pub small : (b : ℕ) → b < 256 → f b < 256
  pub is : n ≡ join_bytes (map f xs)

-- an operation that works on the lowest byte and on the others apart
abbrev Apart : (ℕ → ℕ → ℕ) → Type 0
Apart op = (a b r s : ℕ) → r < 256 → s < 256 → op (a * 256 + r) (b * 256 + s) ≡ op a b * 256 + op r s

each : (op : ℕ → ℕ → ℕ) → op 0 0 ≡ 0 → Apart op → (f g : ℕ → ℕ) → ((b : ℕ) → b < 256 → f b < 256) → ((b : ℕ) → b < 256 → g b < 256)
    → (xs : List ℕ) → Bytes xs → op (join_bytes (map f xs)) (join_bytes (map g xs)) ≡ join_bytes (map (λ x. op (f x) (g x)) xs)
each op z h f g p q [] v = z
each op z h f g p q (x ∷ xs) v =
    let b : x < 256 = v 0 (omega arith) in
    let m = join_bytes (map f xs) in
    let n = join_bytes (map g xs) in
    let d : f x + 256 * m ≡ m * 256 + f x = omega arith in
    let e : g x + 256 * n ≡ n * 256 + g x = omega arith in
    ap₂ op d e
    ∙ h m n (f x) (g x) (p x b) (q x b)
    ∙ ap (λ (k : ℕ). k * 256 + op (f x) (g x)) (each op z h f g p q xs (bytes_tail x xs v))
    ∙ flip (join_bytes (map (λ y. op (f y) (g y)) xs)) (op (f x) (g x))
  where
    flip : (j k : ℕ) → j * 256 + k ≡ k + 256 * j
    flip j k = omega arith

module _ (xs : List ℕ) (v : Bytes xs) where
  pub spread_byte : (n : ℕ) → n ≡ join_bytes xs → Spread xs n (λ x. x)
  spread_byte n e = record { small = λ b h. h; is = e ∙ ap join_bytes (same xs) }
    where
      same : (l : List ℕ) → l ≡ map (λ (x : ℕ). x) l
      same [] = refl
      same (x ∷ l) = ap (λ (r : List ℕ). x ∷ r) (same l)

  pub spread_same : length xs ≡ 8 → (c : ℕ) → c < 256 → Spread xs (join_bytes (replicate 8 c)) (λ _. c)
  spread_same h c l = record { small = λ b _. l; is = ap (λ (n : ℕ). join_bytes (replicate n c)) (sym h) ∙ ap join_bytes (same xs) }
    where
      same : (l : List ℕ) → replicate (length l) c ≡ map (λ (x : ℕ). c) l
      same [] = refl
      same (x ∷ l) = ap (λ (r : List ℕ). c ∷ r) (same l)

  module _ (m n : ℕ) (f g : ℕ → ℕ) (p : Spread xs m f) (q : Spread xs n g) where
    spread : (op : ℕ → ℕ → ℕ) → op 0 0 ≡ 0 → Apart op → ((b : ℕ) → b < 256 → op (f b) (g b) < 256) → Spread xs (op m n) (λ x. op (f x) (g x))
    spread op z h s = record { small = s; is = ap₂ op p.is q.is ∙ each op z h f g p.small q.small xs v }

    pub spread_and : Spread xs (bit_and m n) (λ x. bit_and (f x) (g x))
    spread_and = spread bit_and refl (λ a b r s. and_block 8 a b r s) (λ b h. and_lt 8 (f b) (g b) (p.small b h) (q.small b h))

    pub spread_or : Spread xs (bit_or m n) (λ x. bit_or (f x) (g x))
    spread_or = spread bit_or refl (λ a b r s. or_block 8 a b r s) (λ b h. or_lt 8 (f b) (g b) (p.small b h) (q.small b h))

    pub spread_xor : Spread xs (bit_xor m n) (λ x. bit_xor (f x) (g x))
    spread_xor = spread bit_xor refl (λ a b r s. xor_block 8 a b r s) (λ b h. xor_lt 8 (f b) (g b) (p.small b h) (q.small b h))

    -- sums, where none goes over into the next byte
    pub spread_add : ((b : ℕ) → b < 256 → f b + g b < 256) → Spread xs (m + n) (λ x. f x + g x)
    spread_add s = spread ◌+◌ refl (λ a b r t h k. omega arith) s

  pub spread_as : (n : ℕ) (f g : ℕ → ℕ) → Spread xs n f → ((b : ℕ) → b < 256 → f b ≡ g b) → n ≡ join_bytes (map g xs)
  spread_as n f g p h = p.is ∙ ap join_bytes (go xs v)
    where
      go : (l : List ℕ) → Bytes l → map f l ≡ map g l
      go [] w = refl
      go (x ∷ l) w = ap₂ (λ (a : ℕ) (r : List ℕ). a ∷ r) (h x (w 0 (omega arith))) (go l (bytes_tail x l w))

-- ---- the marks of the bytes that do not stand for themselves

-- what the code works out of each byte
abbrev marked : ℕ → ℕ
marked b =
    bit_and (bit_or (bit_xor (bit_and (bit_and (bit_and b 127 + 96) (bit_xor (bit_and b 127) 34 + 127)) (bit_xor (bit_and b 127) 92 + 127)) 128) b) 128

tried : tab 256 marked ≡ tab 256 mark
unfolding plain?
tried = refl

marked_is : (b : ℕ) → b < 256 → marked b ≡ mark b
marked_is b h = sym (tab_at 0 256 marked b h) ∙ ap (λ (l : List ℕ). get_or l b 0) tried ∙ tab_at 0 256 mark b h

module _ (xs : List ℕ) (eight : length xs ≡ 8) (v : Bytes xs) (w : ℕ) (e : w ≡ join_bytes xs) where
  same : (c : ℕ) → c < 256 → Spread xs (join_bytes (replicate 8 c)) (λ _. c)
  same c h = spread_same xs v eight c h

  -- the low seven bits, and a sum that shows in the highest whether another number is in them
  lows : Spread xs (bit_and w 9187201950435737471) (λ b. bit_and b 127)
  lows = spread_and xs v _ _ _ _ (spread_byte xs v w e) (same 127 (omega arith))

  other : (c : ℕ) → c < 128 → Spread xs (bit_xor (bit_and w 9187201950435737471) (join_bytes (replicate 8 c)) + 9187201950435737471) (λ b. bit_xor (bit_and b 127) c + 127)
  other c h =
      spread_add xs v _ _ _ _ (spread_xor xs v _ _ _ _ lows (same c (omega arith))) (same 127 (omega arith))
      (λ b _. let l = xor_lt 7 (bit_and b 127) c (omega (arith, and_le_r b 127)) h in omega (arith, l))

  pub marks_of : bit_and (bit_or (bit_xor (bit_and (bit_and (bit_and w 9187201950435737471 + 6944656592455360608) (bit_xor (bit_and w 9187201950435737471) 2459565876494606882 + 9187201950435737471)) (bit_xor (bit_and w 9187201950435737471) 6655295901103053916 + 9187201950435737471)) 9259542123273814144) w) 9259542123273814144
      ≡ join_bytes (map mark xs)
  marks_of =
      let above = spread_add xs v _ _ _ _ lows (same 96 (omega arith)) (λ b _. omega (arith, and_le_r b 127)) in
      let plain = spread_and xs v _ _ _ _ (spread_and xs v _ _ _ _ above (other 34 (omega arith))) (other 92 (omega arith)) in
      let all = spread_or xs v _ _ _ _ (spread_xor xs v _ _ _ _ plain (same 128 (omega arith))) (spread_byte xs v w e) in
      spread_as xs v _ marked mark (spread_and xs v _ _ _ _ all (same 128 (omega arith))) marked_is

pub other_room : (w q : ℕ) → q < 2 ^ 63 → bit_xor (bit_and w 9187201950435737471) q + 9187201950435737471 < 2 ^ 64
other_room w q h = omega (arith, xor_lt 63 (bit_and w 9187201950435737471) q (omega (arith, and_le_r w 9187201950435737471)) h)

-- ---- the bytes below the lowest mark
zeros_below : (d n : ℕ) → n % 2 ^ count_trailing_zeros d n ≡ 0
unfolding count_trailing_zeros
zeros_below zero n = omega arith
zeros_below (suc d) n = go (n % 2) refl (zeros_below d (n / 2))
  where
    go : (r : ℕ) → n % 2 ≡ r → n / 2 % 2 ^ count_trailing_zeros d (n / 2) ≡ 0 → n % 2 ^ under r (count_trailing_zeros d (n / 2)) ≡ 0
    go zero e h =
        let m : n % 2 ^ (count_trailing_zeros d (n / 2) + 1) ≡ n / 2 % 2 ^ count_trailing_zeros d (n / 2) * 2 + n % 2 = mod-pow-add n (count_trailing_zeros d (n / 2)) 1 in
        ap (λ (k : ℕ). n % 2 ^ k) (sym (add-one (count_trailing_zeros d (n / 2)))) ∙ m ∙ omega arith
    go (suc r) e h = omega arith

zero_bytes : (ys : List ℕ) → join_bytes ys ≡ 0 → (k : ℕ) → byte_at ys k ≡ 0
zero_bytes [] e k = refl
zero_bytes (y ∷ ys) e zero = omega arith
zero_bytes (y ∷ ys) e (suc k) = zero_bytes ys (omega arith) k

mark_small : (b : ℕ) → mark b < 256
mark_small b = go (plain? b)
  where
    go : (x : Bool) → cond x 0 128 < 256
    go true = omega arith
    go false = omega arith

mark_none : (b : ℕ) → mark b ≡ 0 → plain? b ≡ true
mark_none b e = go (plain? b) e
  where
    go : (x : Bool) → ◌≡◌ {A = ℕ} (cond x 0 128) 0 → x ≡ true
    go true h = refl
    go false h = absurd (omega arith)

module _ (xs : List ℕ) (m : ℕ) (e : m ≡ join_bytes (map mark xs)) where
  marks_bytes : Bytes (map mark xs)
  marks_bytes i l = go xs i l
    where
      go : (ys : List ℕ) (i : ℕ) → i < length (map mark ys) → byte_at (map mark ys) i < 256
      go [] i l = omega arith
      go (y ∷ ys) zero l = mark_small y
      go (y ∷ ys) (suc i) l = go ys i (omega arith)

  -- so many bytes have no mark
  pub plain_below : (z : ℕ) → m % 2 ^ (8 * z) ≡ 0 → (k : ℕ) → k < length xs → k < z → plain? (byte_at xs k) ≡ true
  plain_below z none k l h =
      let c : join_bytes (take z (map mark xs)) ≡ 0 = join_take z (map mark xs) marks_bytes ∙ ap₂ (λ (x y : ℕ). x % y) (sym e) (sym (pow_256 z)) ∙ none in
      let d : byte_at (map mark xs) k ≡ 0 = sym (get_or-take z (map mark xs) k 0 h) ∙ zero_bytes (take z (map mark xs)) c k in
      mark_none (byte_at xs k) (sym (mark_at xs k l) ∙ d)
    where
      mark_at : (ys : List ℕ) (i : ℕ) → i < length ys → byte_at (map mark ys) i ≡ mark (byte_at ys i)
      mark_at [] i l = absurd (omega arith)
      mark_at (y ∷ ys) zero l = refl
      mark_at (y ∷ ys) (suc i) l = mark_at ys i (omega arith)

-- the whole bytes below the lowest bit that is set
abbrev pub clear : ℕ → ℕ
clear n = count_trailing_zeros 64 n / 8

pub clear_below : (n : ℕ) → n % 2 ^ (8 * clear n) ≡ 0
clear_below n =
    let z = count_trailing_zeros 64 n in
    let s : z ≡ z - 8 * (z / 8) + 8 * (z / 8) = omega arith in
    let a : n % 2 ^ (z - 8 * (z / 8) + 8 * (z / 8)) ≡ 0 = ap (λ (k : ℕ). n % 2 ^ k) (sym s) ∙ zeros_below 64 n in
    sym (mod-mod-pow n (z - 8 * (z / 8)) (8 * (z / 8))) ∙ ap (λ (k : ℕ). k % 2 ^ (8 * (z / 8))) a ∙ zero-mod (2 ^ (8 * (z / 8)))

pub clear_few : (n : ℕ) → clear n ≤ 8
clear_few n = omega (arith, trailing_le 64 n)

-- the same of the word at a place of a text
word_eight : (t : List ℕ) (i : ℕ) → i + 8 ≤ length t → length (take 8 (drop i t)) ≡ 8
word_eight t i h = omega (arith, length-take 8 (drop i t), length-drop i t)

pub word_marked : (t : List ℕ) (i w m : ℕ) → Bytes t → i + 8 ≤ length t → w ≡ join_bytes (take 8 (drop i t))
    → ((xs : List ℕ) → length xs ≡ 8 → Bytes xs → w ≡ join_bytes xs → m ≡ join_bytes (map mark xs)) → m ≡ join_bytes (map mark (take 8 (drop i t)))
word_marked t i w m v h e f = f (take 8 (drop i t)) (word_eight t i h) (bytes_take 8 (drop i t) (bytes_drop i t v)) e

module _ (t : List ℕ) (i m : ℕ) (h : i + 8 ≤ length t) (e : m ≡ join_bytes (map mark (take 8 (drop i t)))) where
  pub plains_below : (z : ℕ) → z ≤ 8 → m % 2 ^ (8 * z) ≡ 0 → Plains t i (i + z)
  plains_below z few none = record { forward = omega arith; inside = omega arith; each = λ k a l. go k a (omega arith) (omega arith) }
    where
      go : (k : ℕ) → i ≤ k → k - i < 8 → k - i < z → plain? (byte_at t k) ≡ true
      go k a l g =
          let s : i + (k - i) ≡ k = omega arith in
          let q : byte_at (take 8 (drop i t)) (k - i) ≡ byte_at t k = get_or-take 8 (drop i t) (k - i) 0 l ∙ get_or-drop i t (k - i) 0 ∙ ap (byte_at t) s in
          ap plain? (sym q) ∙ plain_below (take 8 (drop i t)) m e z none (k - i) (omega (arith, word_eight t i h)) g

  pub plains_front : Plains t i (i + clear m)
  plains_front = plains_below (clear m) (clear_few m) (clear_below m)

-- ---- words that agree below the lowest bit that is set in what tells them apart, or in the marks
or_none : (a b : ℕ) → bit_or a b ≡ 0 → (a ≡ 0) × (b ≡ 0)
or_none a b e = (omega (arith, or_add_and a b, and_le_r a b), omega (arith, or_add_and a b, and_le_l a b))

xor_none : (a b : ℕ) → bit_xor a b ≡ 0 → a ≡ b
xor_none a b e = omega (arith, xor_add_and a b, and_le_r a b, and_le_l a b)

pub front_agrees : (v w m z : ℕ) → bit_or (bit_xor v w) m % 2 ^ z ≡ 0 → (v % 2 ^ z ≡ w % 2 ^ z) × (m % 2 ^ z ≡ 0)
front_agrees v w m z e =
    let (x, y) = or_none (bit_xor v w % 2 ^ z) (m % 2 ^ z) (sym (or_mod (bit_xor v w) m z) ∙ e) in
    (xor_none (v % 2 ^ z) (w % 2 ^ z) (sym (xor_mod v w z) ∙ x), y)
