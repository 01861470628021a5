-- Bytes at two places that agree and stand for themselves: one more, a word, and both together. Assumes nothing.
use mathlib.Core.Path.{◌≡◌, refl, sym, ap, ap₂, ◌∙◌, subst}
use mathlib.Core.Bool.{true}
use mathlib.Core.List.{List, ◌∷◌, [], ◌++◌, map}
use Prim.Native.Nat.{ℕ, ◌+◌, ◌-◌, ◌*◌, ◌%◌, ◌^◌, ◌<◌, ◌≤◌, zero-le}
use native.Mathlib.Omega.{arith}
use lib.Bits.{bit_or, bit_xor}
use lib.ListN.{length, take, drop, length-take, length-drop}
use lib.Seq.{take-take, get_or-take, get_or-drop}
use Rattle.base.specs.Text.{byte_at}
use Rattle.base.proofs.Bytes.{class_inside}
use Rattle.jsontext.specs.Strings.{plain?}
use Rattle.jsontext.specs.Decoded.{join_bytes}
use Rattle.jsontext.specs.Kept.{Bytes}
use Rattle.jsontext.specs.Scanned.{part}
use Rattle.jsontext.specs.StringAnswers.{Plains, mark}
use Rattle.jsontext.specs.Compared.{Alike}
use Rattle.jsontext.proofs.Joining.{join_take, join_same, pow_256, bytes_take, bytes_drop}
use Rattle.jsontext.proofs.PlainRuns.{plains_none, plains_more, plains_join}
use Rattle.jsontext.proofs.Bytewise.{clear, clear_below, clear_few, front_agrees, plains_below}
use Rattle.jsontext.proofs.Scanning.{part_none, part_snoc, part_join}

pub plain_inside : (t : List ℕ) (i b : ℕ) → b ≡ byte_at t i → plain? b ≡ true → i < length t
unfolding plain?
plain_inside t i b e f = class_inside plain? refl t i (ap plain? (sym e) ∙ f)

module _ (s : List ℕ) (i : ℕ) (t : List ℕ) (j : ℕ) where
  -- what stands for itself at one place does so at the other
  alike_of : (n : ℕ) → Plains s i (i + n) → part s i (i + n) ≡ part t j (j + n) → j + n ≤ length t → Alike s i t j n
  alike_of n p e h = record { first = p; second = record { forward = omega arith; inside = h; each = λ k a b. go k a b }; same = e }
    where
      at_part : (u : List ℕ) (x d : ℕ) → d < n → byte_at (part u x (x + n)) d ≡ byte_at u (x + d)
      at_part u x d l = get_or-take (x + n - x) (drop x u) d 0 (omega arith) ∙ get_or-drop x u d 0

      go : (k : ℕ) → j ≤ k → k < j + n → plain? (byte_at t k) ≡ true
      go k a b =
          let z : j + (k - j) ≡ k = omega arith in
          let l : k - j < n = omega arith in
          let q : byte_at s (i + (k - j)) ≡ byte_at t k = sym (at_part s i (k - j) l) ∙ ap (λ (y : List ℕ). byte_at y (k - j)) e ∙ at_part t j (k - j) l ∙ ap (byte_at t) z in
          ap plain? (sym q) ∙ p.each (i + (k - j)) (omega arith) (omega arith)

  -- two parts that are the same
  pub alike_parts : (n : ℕ) → i + n ≤ length s → j + n ≤ length t → Plains (part t j (j + n)) 0 (length (part t j (j + n))) → part t j (j + n) ≡ part s i (i + n) → Alike s i t j n
  alike_parts n h l p e = alike_of n (record { forward = omega arith; inside = h; each = λ k a b. there k a b }) (sym e) l
    where
      there : (k : ℕ) → i ≤ k → k < i + n → plain? (byte_at s k) ≡ true
      there k a b =
          let z : k ≡ i + (k - i) = omega arith in
          ap plain? (ap (byte_at s) z ∙ sym (get_or-take (i + n - i) (drop i s) (k - i) 0 (omega arith) ∙ get_or-drop i s (k - i) 0) ∙ ap (λ (xs : List ℕ). byte_at xs (k - i)) (sym e))
          ∙ p.each (k - i) zero-le (omega (arith, length-take (j + n - j) (drop j t), length-drop j t))

  pub alike_none : i ≤ length s → j ≤ length t → Alike s i t j 0
  alike_none h k =
      let x : i ≡ i + 0 = omega arith in
      let y : j ≡ j + 0 = omega arith in
      alike_of 0 (subst (Plains s i) x (plains_none s i h)) (ap (part s i) (sym x) ∙ part_none s i ∙ sym (part_none t j) ∙ ap (part t j) y) (omega arith)

  pub alike_join : (n m : ℕ) → Alike s i t j n → Alike s (i + n) t (j + n) m → Alike s i t j (n + m)
  alike_join n m v w =
      let x : i + n + m ≡ i + (n + m) = omega arith in
      let y : j + n + m ≡ j + (n + m) = omega arith in
      alike_of (n + m) (subst (Plains s i) x (plains_join s i (i + n) v.first (i + n + m) w.first))
      (ap (part s i) (sym x) ∙ sym (part_join s i (i + n) (i + n + m) v.first.forward w.first.forward)
      ∙ ap₂ (λ (a b : List ℕ). a ++ b) v.same w.same
      ∙ part_join t j (j + n) (j + n + m) v.second.forward w.second.forward ∙ ap (part t j) y)
      (omega (arith, w.second.inside))

  pub alike_more : (n b d : ℕ) → Alike s i t j n → b ≡ byte_at s (i + n) → plain? b ≡ true → d ≡ byte_at t (j + n) → d ≡ b → Alike s i t j (n + 1)
  alike_more n b d v e f g q =
      let x : i + n < length s = plain_inside s (i + n) b e f in
      let y : j + n < length t = plain_inside t (j + n) b (sym q ∙ g) f in
      let k : i + n + 1 ≡ i + (n + 1) = omega arith in
      let l : j + n + 1 ≡ j + (n + 1) = omega arith in
      alike_of (n + 1) (subst (Plains s i) k (plains_more s i (i + n) v.first x (ap plain? (sym e) ∙ f)))
      (ap (part s i) (sym k) ∙ part_snoc s i (i + n) v.first.forward x
      ∙ ap₂ (λ (a : List ℕ) (z : ℕ). a ++ z ∷ []) v.same (sym e ∙ sym q ∙ g)
      ∙ sym (part_snoc t j (j + n) v.second.forward y) ∙ ap (part t j) l)
      (omega arith)

  -- words: up to the lowest bit that tells them apart or marks a byte
  pub alike_word : (v w m : ℕ) → Bytes s → Bytes t → i + 8 ≤ length s → j + 8 ≤ length t → v ≡ join_bytes (take 8 (drop i s)) → w ≡ join_bytes (take 8 (drop j t))
      → m ≡ join_bytes (map mark (take 8 (drop i s))) → Alike s i t j (clear (bit_or (bit_xor v w) m))
  alike_word v w m b d h k e f g =
      let z = clear (bit_or (bit_xor v w) m) in
      let few : z ≤ 8 = clear_few (bit_or (bit_xor v w) m) in
      let (agree, none) = front_agrees v w m (8 * z) (clear_below (bit_or (bit_xor v w) m)) in
      let fronts : join_bytes (take z (drop i s)) ≡ join_bytes (take z (drop j t)) =
      front s i v b e z few ∙ ap (λ (p : ℕ). v % p) (sym (pow_256 z)) ∙ agree ∙ ap (λ (p : ℕ). w % p) (pow_256 z) ∙ sym (front t j w d f z few) in
      let same : take z (drop i s) ≡ take z (drop j t) =
      join_same (take z (drop i s)) (take z (drop j t)) (bytes_take z (drop i s) (bytes_drop i s b)) (bytes_take z (drop j t) (bytes_drop j t d))
      (omega (arith, length-take z (drop i s), length-drop i s, length-take z (drop j t), length-drop j t)) fronts in
      let x : i + z - i ≡ z = omega arith in
      let y : z ≡ j + z - j = omega arith in
      alike_of z (plains_below s i m h g z few none)
      (ap (λ (n : ℕ). take n (drop i s)) x ∙ same ∙ ap (λ (n : ℕ). take n (drop j t)) y)
      (omega arith)
    where
      front : (u : List ℕ) (a n : ℕ) → Bytes u → n ≡ join_bytes (take 8 (drop a u)) → (z : ℕ) → z ≤ 8 → join_bytes (take z (drop a u)) ≡ n % 256 ^ z
      front u a n c q z l =
          ap join_bytes (sym (take-take z 8 (drop a u) l)) ∙ join_take z (take 8 (drop a u)) (bytes_take 8 (drop a u) (bytes_drop a u c)) ∙ ap (λ (k : ℕ). k % 256 ^ z) (sym q)
