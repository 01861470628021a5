-- Decoded strings compared char by char: what the loops know at their heads, and what a quote, a fault or another char decides. Assumes nothing.
use mathlib.Core.Path.{◌≡◌, refl, sym, ap, ◌∙◌, subst}
use mathlib.Core.Bool.{Bool, true, false, true≢false}
use mathlib.Core.List.{List, [], ◌++◌, append_assoc}
use Prim.Native.Nat.{ℕ, ◌+◌, ◌-◌, ◌<◌, ◌≤◌}
use native.Mathlib.Omega.{arith}
use lib.Dec.{eqb}
use lib.ListN.{length, take, drop, length-append, length-take, length-drop, take-append-drop}
use lib.Seq.{take-add, take_all, take_at, drop-append_seam}
use borrow.Author.Tests.{eqb-true, eqb-false}
use Rattle.model.specs.Lists.{eq_list}
use Rattle.model.proofs.Members.{T_true, eq_list→eq, eq_list_refl}
use Rattle.base.specs.Text.{byte_at, Got, got, fault}
use Rattle.jsontext.specs.Utf8.{utf8}
use Rattle.jsontext.specs.Strings.{Piece, closed, raw, code, bad, piece_at, with_front, string_from, string_at}
use Rattle.jsontext.specs.Decoded.{join_bytes, is_text, same_text}
use Rattle.jsontext.specs.Kept.{Bytes}
use Rattle.jsontext.specs.Scanned.{part, Scanned}
use Rattle.jsontext.specs.Chars.{Character}
use Rattle.jsontext.specs.Compared.{Alike}
use Rattle.jsontext.proofs.Joining.{join_same, bytes_take, bytes_drop}
use Rattle.jsontext.proofs.Ways.{piece_closed}
use Rattle.jsontext.proofs.PieceEnds.{raw_ahead}
use Rattle.jsontext.proofs.LeadRows.{size_bounds}
use Rattle.jsontext.proofs.Packing.{utf8_sized}
use Rattle.jsontext.proofs.Scanning.{scan_plains, scan_raw, scan_code, scan_closed, scan_bad, no_quote}
use Rattle.jsontext.proofs.CharReads.{quoted, char_scan, chars_same, chars_front}

-- ---- what the answers say
not_so : (b : Bool) → (b ≡ true → ⊥) → false ≡ b
not_so true h = absurd (h refl)
not_so false h = refl

text_is : (g : Got (List ℕ)) (line : List ℕ) → is_text g line ≡ true → (n : ℕ) × (g ≡ got line n)
text_is (got bs n) line e = (n, ap (λ (l : List ℕ). got l n) (eq_list→eq bs line ((T_true (eq_list bs line)).1 e)))
text_is (fault p) line e = absurd (true≢false (sym e))

is_text_lem : (g : Got (List ℕ)) (line : List ℕ) (n : ℕ) → g ≡ got line n → is_text g line ≡ true
is_text_lem g line n e = ap (λ (x : Got (List ℕ)). is_text x line) e ∙ (T_true (eq_list line line)).0 (eq_list_refl line)

-- the same: whole, with the same bytes
pub record Same (g h : Got (List ℕ)) : Type 0 where
  pub bytes : List ℕ
  pub m : ℕ
  pub n : ℕ
  pub first : g ≡ got bytes m
  pub second : h ≡ got bytes n

same_is : (g h : Got (List ℕ)) → same_text g h ≡ true → Same g h
same_is (got x m) h e = let (n, q) = text_is h x e in record { bytes = x; m = m; n = n; first = refl; second = q }
same_is (fault p) h e = absurd (true≢false (sym e))

is_same : (g h : Got (List ℕ)) → Same g h → same_text g h ≡ true
is_same g h v = ap (λ (x : Got (List ℕ)). same_text x h) v.first ∙ is_text_lem h v.bytes v.n v.second

-- a broken string is no text and the same as none
first_broken : (g h : Got (List ℕ)) (p : ℕ) → g ≡ fault p → false ≡ same_text g h
first_broken g h p e = sym (ap (λ (x : Got (List ℕ)). same_text x h) e)

text_broken : (g : Got (List ℕ)) (p : ℕ) (line : List ℕ) → g ≡ fault p → false ≡ is_text g line
text_broken g p line e = sym (ap (λ (x : Got (List ℕ)). is_text x line) e)

second_broken : (g h : Got (List ℕ)) (p : ℕ) → h ≡ fault p → false ≡ same_text g h
second_broken (got x m) h p e = text_broken h p x e
second_broken (fault q) h p e = refl

-- a whole string that begins with some bytes
front_is : (bs line : List ℕ) (n : ℕ) (g : Got (List ℕ)) → got line n ≡ with_front bs g → (more : List ℕ) × (line ≡ bs ++ more)
front_is bs line n (got more m) e = (more, cc)
front_is bs line n (fault p) e = let z : ◌≡◌ {A = ℕ} 0 1 = cc in absurd (omega arith)

cancel : (out xs ys : List ℕ) → out ++ xs ≡ out ++ ys → xs ≡ ys
cancel out xs ys e = sym (drop-append_seam out xs) ∙ ap (drop (length out)) e ∙ drop-append_seam out ys

module _ (t : List ℕ) (at i : ℕ) (out : List ℕ) (s : Scanned t at i out) where
  -- where a char follows, more than those
  char_whole : (w m n : ℕ) (c : Character t i w m n) (line : List ℕ) (k : ℕ) → string_at t at ≡ got line k → (more : List ℕ) × (line ≡ out ++ (c.bs ++ more))
  char_whole w m n c line k e =
      let u = char_scan t at i n out c.bs s c.char in
      let (more, q) = front_is (out ++ c.bs) line k (string_from u.fuel t n) (sym e ∙ u.string) in
      (more, q ∙ append_assoc out c.bs more)

  quote_whole : byte_at t i ≡ 34 → string_at t at ≡ got out (i + 1)
  quote_whole q = scan_closed t at i out s (sym (piece_closed t i (byte_at t i) refl q))

  -- where no quote stands, it is not what was read so far
  open_other : (byte_at t i ≡ 34 → ⊥) → (n : ℕ) → string_at t at ≡ got out n → ⊥
  open_other q n e = go (piece_at t i) refl
    where
      longer : (bs : List ℕ) (k : ℕ) → Scanned t at k (out ++ bs) → 0 < length bs → ⊥
      longer bs k u h =
          let (more, r) = front_is (out ++ bs) out n (string_from u.fuel t k) (sym e ∙ u.string) in
          omega (arith, ap length r, length-append (out ++ bs) more, length-append out bs)

      go : (p : Piece) → piece_at t i ≡ p → ⊥
      go closed f = q (quoted t i f)
      go (raw k) f = let a = raw_ahead t i k f in longer (part t i k) k (scan_raw t at i out s k f) (omega (arith, a.forward, a.inside, length-take (k - i) (drop i t), length-drop i t))
      go (code d k) f = longer (utf8 d) k (scan_code t at i out s d k f) (omega (arith, utf8_sized d, size_bounds (byte_at (utf8 d) 0)))
      go (bad p) f = let u = scan_bad t at i out s p f in let z : ◌≡◌ {A = ℕ} 0 1 = cc in omega arith

-- ---- two strings: the same bytes were read of both
pub record Both (t : List ℕ) (a b i j : ℕ) : Type 0 where
  pub out : List ℕ
  pub first : Scanned t a i out
  pub second : Scanned t b j out

module _ (t : List ℕ) (a b i j : ℕ) (v : Both t a b i j) where
  pub both_alike : (n : ℕ) → Alike t i t j n → Both t a b (i + n) (j + n)
  both_alike n h =
      record {
        out = v.out ++ part t i (i + n);
        first = scan_plains t a i (i + n) v.out v.first h.first;
        second = subst (λ (l : List ℕ). Scanned t b (j + n) (v.out ++ l)) (sym h.same) (scan_plains t b j (j + n) v.out v.second h.second);
      }

  -- a quote in the first, and then in the second or not
  pub both_end : (x y : ℕ) → x ≡ byte_at t i → x ≡ 34 → y ≡ byte_at t j → eqb y 34 ≡ same_text (string_at t a) (string_at t b)
  both_end x y e f g = go (eqb y 34) refl
    where
      whole : string_at t a ≡ got v.out (i + 1)
      whole = quote_whole t a i v.out v.first (sym e ∙ f)

      go : (c : Bool) → eqb y 34 ≡ c → c ≡ same_text (string_at t a) (string_at t b)
      go true q = sym (is_same _ _ (record { bytes = v.out; m = i + 1; n = j + 1; first = whole; second = quote_whole t b j v.out v.second (sym g ∙ eqb-true y 34 q) }))
      go false q =
          not_so _ (λ r.
          let k = same_is (string_at t a) (string_at t b) r in
          let z : k.bytes ≡ v.out = cc (k.first, whole) in
          open_other t b j v.out v.second (λ o. eqb-false y 34 q (g ∙ o)) k.n (k.second ∙ ap (λ (l : List ℕ). got l k.n) z))

  -- a quote in the second alone
  pub both_second_end : (x y : ℕ) → x ≡ byte_at t i → (x ≡ 34 → ⊥) → y ≡ byte_at t j → y ≡ 34 → false ≡ same_text (string_at t a) (string_at t b)
  both_second_end x y e f g h =
      not_so _ (λ r.
      let k = same_is (string_at t a) (string_at t b) r in
      let whole = quote_whole t b j v.out v.second (sym g ∙ h) in
      let z : k.bytes ≡ v.out = cc (k.second, whole) in
      open_other t a i v.out v.first (λ o. f (e ∙ o)) k.m (k.first ∙ ap (λ (l : List ℕ). got l k.m) z))

  pub both_broken : (p : ℕ) → piece_at t i ≡ bad p → false ≡ same_text (string_at t a) (string_at t b)
  both_broken p e = first_broken _ _ p (scan_bad t a i v.out v.first p e)

  pub both_second_broken : (p : ℕ) → piece_at t j ≡ bad p → false ≡ same_text (string_at t a) (string_at t b)
  both_second_broken p e = second_broken (string_at t a) _ p (scan_bad t b j v.out v.second p e)

  -- a char in both
  module _ (p k x q l y : ℕ) (c : Character t i p k x) (d : Character t j q l y) where
    pub both_differ : (p ≡ q → ⊥) → false ≡ same_text (string_at t a) (string_at t b)
    both_differ h =
        not_so _ (λ r.
        let s = same_is (string_at t a) (string_at t b) r in
        let (xs, e) = char_whole t a i v.out v.first p k x c s.bytes s.m s.first in
        let (ys, f) = char_whole t b j v.out v.second q l y d s.bytes s.n s.second in
        h (chars_front t i p k x j q l y c d xs ys (cancel v.out (c.bs ++ xs) (d.bs ++ ys) (sym e ∙ f))))

    pub both_agree : p ≡ q → Both t a b x y
    both_agree e =
        record {
          out = v.out ++ c.bs;
          first = char_scan t a i x v.out c.bs v.first c.char;
          second = subst (λ (z : List ℕ). Scanned t b y (v.out ++ z)) (sym (chars_same t i p k x j q l y c d e)) (char_scan t b j y v.out d.bs v.second d.char);
        }

-- ---- a string and given bytes: the first k of them were read
pub record Running (t : List ℕ) (at : ℕ) (bytes : List ℕ) (i k : ℕ) : Type 0 where
  pub few : k ≤ length bytes
  pub scanned : Scanned t at i (take k bytes)

pub running_begin : (t : List ℕ) (at : ℕ) (bytes : List ℕ) → Scanned t at (at + 1) [] → Running t at bytes (at + 1) 0
running_begin t at bytes s = record { few = omega arith; scanned = s }

module _ (t : List ℕ) (at : ℕ) (bytes : List ℕ) (i k : ℕ) (v : Running t at bytes i k) where
  pub running_alike : (n : ℕ) → Alike t i bytes k n → Running t at bytes (i + n) (k + n)
  running_alike n h =
      let z : k + n - k ≡ n = omega arith in
      let e : take k bytes ++ part t i (i + n) ≡ take (k + n) bytes = ap (λ (l : List ℕ). take k bytes ++ l) (h.same ∙ ap (λ (m : ℕ). take m (drop k bytes)) z) ∙ sym (take-add k n bytes) in
      record { few = h.second.inside; scanned = subst (Scanned t at (i + n)) e (scan_plains t at i (i + n) (take k bytes) v.scanned h.first) }

  pub running_end : (x : ℕ) → x ≡ byte_at t i → x ≡ 34 → eqb k (length bytes) ≡ is_text (string_at t at) bytes
  running_end x e f = go (eqb k (length bytes)) refl
    where
      whole : string_at t at ≡ got (take k bytes) (i + 1)
      whole = quote_whole t at i (take k bytes) v.scanned (sym e ∙ f)

      go : (c : Bool) → eqb k (length bytes) ≡ c → c ≡ is_text (string_at t at) bytes
      go true q = let z = eqb-true k (length bytes) q in sym (is_text_lem _ bytes (i + 1) (whole ∙ ap (λ (l : List ℕ). got l (i + 1)) (take_all k bytes (omega arith))))
      go false q =
          not_so _ (λ r.
          let (n, u) = text_is (string_at t at) bytes r in
          let y : take k bytes ≡ bytes = cc (whole, u) in
          eqb-false k (length bytes) q (omega (arith, ap length y, length-take k bytes, v.few)))

  pub running_broken : (p : ℕ) → piece_at t i ≡ bad p → false ≡ is_text (string_at t at) bytes
  running_broken p e = text_broken _ p bytes (scan_bad t at i (take k bytes) v.scanned p e)

  -- a char
  module _ (w m n : ℕ) (c : Character t i w m n) where
    left : is_text (string_at t at) bytes ≡ true → (more : List ℕ) × (drop k bytes ≡ c.bs ++ more)
    left r =
        let (l, u) = text_is (string_at t at) bytes r in
        let (more, e) = char_whole t at i (take k bytes) v.scanned w m n c bytes l u in
        (more, cancel (take k bytes) (drop k bytes) (c.bs ++ more) (take-append-drop k bytes ∙ e))

    pub running_short : length bytes - k < m → false ≡ is_text (string_at t at) bytes
    running_short h =
        not_so _ (λ r.
        let (more, e) = left r in
        absurd (omega (arith, ap length e, length-append c.bs more, length-drop k bytes, c.is.count)))

    module _ (h : m ≤ length bytes - k) (x : ℕ) (is : x ≡ join_bytes (take m (drop k bytes))) where
      pub running_differ : (x ≡ w → ⊥) → false ≡ is_text (string_at t at) bytes
      running_differ g =
          not_so _ (λ r.
          let (more, e) = left r in
          g (is ∙ ap join_bytes (ap (take m) e ∙ take_at c.bs more m (sym c.is.count)) ∙ sym c.is.joined))

      pub running_agree : Bytes bytes → x ≡ w → Running t at bytes n (k + m)
      running_agree b g =
          let l : length (take m (drop k bytes)) ≡ m = omega (arith, length-take m (drop k bytes), length-drop k bytes) in
          let y : take m (drop k bytes) ≡ c.bs =
          join_same (take m (drop k bytes)) c.bs (bytes_take m (drop k bytes) (bytes_drop k bytes b)) c.is.bytes (l ∙ c.is.count) (sym is ∙ g ∙ c.is.joined) in
          let e : take k bytes ++ c.bs ≡ take (k + m) bytes = ap (λ (z : List ℕ). take k bytes ++ z) (sym y) ∙ sym (take-add k m bytes) in
          record { few = omega (arith, v.few); scanned = subst (Scanned t at n) e (char_scan t at i n (take k bytes) c.bs v.scanned c.char) }

-- a string that has no quote is broken
pub first_none : (t : List ℕ) (a b x : ℕ) → x ≡ byte_at t a → (x ≡ 34 → ⊥) → false ≡ same_text (string_at t a) (string_at t b)
first_none t a b x e f = first_broken _ _ a (no_quote t a x e f)

pub second_none : (t : List ℕ) (a b y : ℕ) → y ≡ byte_at t b → (y ≡ 34 → ⊥) → false ≡ same_text (string_at t a) (string_at t b)
second_none t a b y e f = second_broken (string_at t a) _ b (no_quote t b y e f)

pub text_none : (t : List ℕ) (a x : ℕ) (line : List ℕ) → x ≡ byte_at t a → (x ≡ 34 → ⊥) → false ≡ is_text (string_at t a) line
text_none t a x line e f = text_broken _ a line (no_quote t a x e f)
