-- A char of a string: it is read as a piece, has as many bytes as the first of them says, and so is known from other chars by its bytes joined. Assumes nothing.
use mathlib.Core.Path.{◌≡◌, sym, ap, ◌∙◌, subst}
use mathlib.Core.List.{List, [], ◌∷◌, ◌++◌}
use Prim.Native.Nat.{ℕ, ◌+◌, ◌-◌, ◌%◌, ◌<◌, ◌≤◌}
use native.Mathlib.Omega.{arith}
use lib.ListN.{length, take, drop, length-take, length-drop, get_or-append}
use lib.Seq.{get_or-take, get_or-drop, take_at}
use Rattle.base.specs.Text.{byte_at}
use Rattle.jsontext.specs.Utf8.{utf8}
use Rattle.jsontext.specs.Strings.{paired, closed, raw, code, piece_at}
use Rattle.jsontext.specs.Decoded.{join_bytes}
use Rattle.jsontext.specs.Kept.{Bytes}
use Rattle.jsontext.specs.Scanned.{Scanned}
use Rattle.jsontext.specs.Productions.{CharAt, unescaped, above_7_f, letter, unicode, pair}
use Rattle.jsontext.specs.Chars.{Joined, Character}
use Rattle.jsontext.proofs.Joining.{bytes_take, bytes_drop, join_same}
use Rattle.jsontext.proofs.LeadRows.{size_by, size_bounds, sequence_size}
use Rattle.jsontext.proofs.Packing.{size_one, utf8_sized}
use Rattle.jsontext.proofs.SequenceProductions.{read_sequence, sequence_ahead}
use Rattle.jsontext.proofs.CharProductions.{plain_range, letter_one, PieceIs, piece_is, PieceFor, as_raw_lem, as_code, char_piece, char_ahead}
use Rattle.jsontext.proofs.Scanning.{scan_raw, scan_code}

-- ---- it is read
module _ (t : List ℕ) (at i n : ℕ) (front bs : List ℕ) (s : Scanned t at i front) where
  pub char_scan : CharAt t i bs n → Scanned t at n (front ++ bs)
  char_scan h = go (char_piece t h)
    where
      go : PieceFor t i bs n → Scanned t at n (front ++ bs)
      go (as_raw_lem e q) = subst (λ (l : List ℕ). Scanned t at n (front ++ l)) (sym q) (scan_raw t at i front s n e)
      go (as_code {c = c} e q) = subst (λ (l : List ℕ). Scanned t at n (front ++ l)) (sym q) (scan_code t at i front s c n e)

-- the piece that stands there
module _ (t : List ℕ) (i : ℕ) where
  pub raw_character : (n w : ℕ) → Bytes t → piece_at t i ≡ raw n → w ≡ join_bytes (take (n - i) (drop i t)) → Character t i w (n - i) n
  raw_character n w v e j =
      let c : CharAt t i (take (n - i) (drop i t)) n = subst (PieceIs t i) e (piece_is t i) in
      let (l, k) = char_ahead t c in
      record {
        bs = take (n - i) (drop i t);
        char = c;
        is = record { bytes = bytes_take (n - i) (drop i t) (bytes_drop i t v); count = omega (arith, length-take (n - i) (drop i t), length-drop i t); joined = j };
      }

  pub code_character : (c n w m : ℕ) → piece_at t i ≡ code c n → Joined (utf8 c) w m → Character t i w m n
  code_character c n w m e j = record { bs = utf8 c; char = subst (PieceIs t i) e (piece_is t i); is = j }

  pub quoted : piece_at t i ≡ closed → byte_at t i ≡ 34
  quoted e = subst (PieceIs t i) e (piece_is t i)

-- ---- as many bytes as the first says
module _ (t : List ℕ) where
  char_sized : {i n : ℕ} {bs : List ℕ} → CharAt t i bs n → Bytes bs → length bs ≡ size_by (byte_at bs 0)
  char_sized {i = i} (unescaped h e) v = let (lo, hi, p, q) = plain_range (byte_at t i) h in size_one (byte_at t i) hi
  char_sized {i = i} {n = n} (above_7_f s) v =
      let (l, k) = sequence_ahead t s in
      let z : length (take (n - i) (drop i t)) ≡ n - i = omega (arith, length-take (n - i) (drop i t), length-drop i t) in
      let zero-there : i + 0 ≡ i = omega arith in
      let f : byte_at (take (n - i) (drop i t)) 0 ≡ byte_at t i = get_or-take (n - i) (drop i t) 0 0 (omega arith) ∙ get_or-drop i t 0 0 ∙ ap (byte_at t) zero-there in
      let b : byte_at t i < 256 = subst (λ (x : ℕ). x < 256) f (v 0 (omega arith)) in
      let r : n ≡ i + size_by (byte_at t i) = sequence_size t i n b (read_sequence t s) in
      z ∙ omega arith ∙ ap size_by (sym f)
  char_sized {i = i} (letter {b = b} e m q) v = rw (letter_one (byte_at t (i + 1)) b m) at (utf8_sized b)
  char_sized (unicode {v = c} u s q) v = utf8_sized c
  char_sized (pair {v = c} {w = d} u h w l q) v = utf8_sized (paired c d)

module _ (t : List ℕ) (i w m n : ℕ) (c : Character t i w m n) where
  pub char_size : m ≡ size_by (byte_at c.bs 0)
  char_size = c.is.count ∙ char_sized t c.char c.is.bytes

  pub char_few : (0 < m) × (m ≤ 4)
  char_few = let e = char_size in (omega (arith, size_bounds (byte_at c.bs 0)), omega (arith, size_bounds (byte_at c.bs 0)))

-- one to four bytes of a code point
pub joined_few : (c w m : ℕ) → Joined (utf8 c) w m → (0 < m) × (m ≤ 4)
joined_few c w m j = (omega (arith, j.count, utf8_sized c, size_bounds (byte_at (utf8 c) 0)), omega (arith, j.count, utf8_sized c, size_bounds (byte_at (utf8 c) 0)))

-- ---- two chars
lead_joined : (bs : List ℕ) (w m : ℕ) → Joined bs w m → w % 256 ≡ byte_at bs 0
lead_joined [] w m j = omega (arith, j.joined)
lead_joined (b ∷ bs) w m j = let h : b < 256 = j.bytes 0 (omega arith) in omega (arith, j.joined)

module _ (t : List ℕ) (i v k x j w l y : ℕ) (c : Character t i v k x) (d : Character t j w l y) where
  -- the same number: the same bytes
  pub chars_same : v ≡ w → c.bs ≡ d.bs
  chars_same e =
      let h : byte_at c.bs 0 ≡ byte_at d.bs 0 = sym (lead_joined c.bs v k c.is) ∙ ap (λ (n : ℕ). n % 256) e ∙ lead_joined d.bs w l d.is in
      let s : k ≡ l = char_size t i v k x c ∙ ap size_by h ∙ sym (char_size t j w l y d) in
      join_same c.bs d.bs c.is.bytes d.is.bytes (sym c.is.count ∙ s ∙ d.is.count) (sym c.is.joined ∙ e ∙ d.is.joined)

  -- at the front of the same bytes: the same number
  pub chars_front : (xs ys : List ℕ) → c.bs ++ xs ≡ d.bs ++ ys → v ≡ w
  chars_front xs ys e =
      let p = char_few t i v k x c in
      let q = char_few t j w l y d in
      let h : byte_at c.bs 0 ≡ byte_at d.bs 0 =
      sym (get_or-append c.bs xs 0 0 (omega (arith, c.is.count))) ∙ ap (λ (z : List ℕ). byte_at z 0) e ∙ get_or-append d.bs ys 0 0 (omega (arith, d.is.count)) in
      let s : k ≡ l = char_size t i v k x c ∙ ap size_by h ∙ sym (char_size t j w l y d) in
      let same : c.bs ≡ d.bs = sym (take_at c.bs xs k (sym c.is.count)) ∙ ap (take k) e ∙ take_at d.bs ys k (sym d.is.count ∙ sym s) in
      c.is.joined ∙ ap join_bytes same ∙ sym d.is.joined
