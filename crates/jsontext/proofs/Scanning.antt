-- A string read piece by piece: what a loop knows at its head. Assumes nothing.
use mathlib.Core.Path.{◌≡◌, refl, sym, ap, ◌∙◌, subst}
use mathlib.Core.Bool.{true, false}
use mathlib.Core.List.{List, [], ◌∷◌, ◌++◌, append_assoc, append-nil}
use Prim.Native.Nat.{ℕ, zero, suc, ◌+◌, ◌-◌, ◌<◌, ◌≤◌}
use native.Mathlib.Numerals.{add-one}
use native.Mathlib.Omega.{arith}
use lib.Dec.{eqb}
use lib.ListN.{length, take, drop}
use lib.Seq.{take-add, drop-drop, drop-cons}
use borrow.Author.Tests.{eq-eqb, ne_eqb}
use Rattle.base.specs.Text.{byte_at, Got, got, fault}
use Rattle.base.proofs.Bytes.{past, byte_inside}
use Rattle.jsontext.specs.Utf8.{utf8}
use Rattle.jsontext.specs.Strings.{closed, raw, code, bad, piece_at, plain?, with_front, string_from, string_at}
use Rattle.jsontext.specs.Scanned.{part, Scanned}
use Rattle.jsontext.specs.StringAnswers.{Ahead, Plains}
use Rattle.jsontext.proofs.Ways.{plain_piece}
use Rattle.jsontext.proofs.PieceEnds.{raw_ahead, code_ahead, piece_past, quote_inside}

-- ---- bytes from one place to another
pub part_none : (t : List ℕ) (i : ℕ) → part t i i ≡ []
part_none t i = let z : i - i ≡ 0 = omega arith in rw z

pub part_join : (t : List ℕ) (i j n : ℕ) → i ≤ j → j ≤ n → part t i j ++ part t j n ≡ part t i n
part_join t i j n h k =
    let a : n - i ≡ j - i + (n - j) = omega arith in
    let b : i + (j - i) ≡ j = omega arith in
    sym (rw a (take-add (j - i) (n - j) (drop i t) ∙ ap (λ (l : List ℕ). part t i j ++ take (n - j) l) (drop-drop (j - i) i t ∙ ap (λ (m : ℕ). drop m t) b)))

pub part_cons : (t : List ℕ) (i n : ℕ) → i < n → n ≤ length t → part t i n ≡ byte_at t i ∷ part t (i + 1) n
part_cons t i n h k =
    let z : n - i ≡ suc (n - (i + 1)) = omega arith in
    rw (z, drop-cons t i 0 (omega arith), add-one i)

pub part_snoc : (t : List ℕ) (i n : ℕ) → i ≤ n → n < length t → part t i (n + 1) ≡ part t i n ++ byte_at t n ∷ []
part_snoc t i n h k =
    sym (part_join t i n (n + 1) h (omega arith))
    ∙ ap (λ (l : List ℕ). part t i n ++ l) (part_cons t n (n + 1) (omega arith) (omega arith) ∙ ap (λ (l : List ℕ). byte_at t n ∷ l) (part_none t (n + 1)))

-- ---- one piece more
pub front_join : (a b : List ℕ) (g : Got (List ℕ)) → with_front a (with_front b g) ≡ with_front (a ++ b) g
front_join a b (got more n) = ap (λ (l : List ℕ). got l n) (sym (append_assoc a b more))
front_join a b (fault p) = refl

module _ (t : List ℕ) (i f : ℕ) where
  pub step_closed : piece_at t i ≡ closed → string_from (suc f) t i ≡ got [] (i + 1)
  unfolding string_from
  step_closed e = rw (string_from, e)

  pub step_raw : (n : ℕ) → piece_at t i ≡ raw n → string_from (suc f) t i ≡ with_front (part t i n) (string_from f t n)
  unfolding string_from
  step_raw n e = rw (string_from, e)

  pub step_code : (c n : ℕ) → piece_at t i ≡ code c n → string_from (suc f) t i ≡ with_front (utf8 c) (string_from f t n)
  unfolding string_from
  step_code c n e = rw (string_from, e)

  pub step_bad : (p : ℕ) → piece_at t i ≡ bad p → string_from (suc f) t i ≡ fault p
  unfolding string_from
  step_bad p e = rw (string_from, e)

module _ (t : List ℕ) (at i : ℕ) (front : List ℕ) (s : Scanned t at i front) where
  -- pieces are left where a byte is
  more : i < length t → (g : ℕ) × (s.fuel ≡ suc g)
  more h = go s.fuel refl
    where
      go : (f : ℕ) → s.fuel ≡ f → (g : ℕ) × (s.fuel ≡ suc g)
      go zero e = absurd (omega (arith, s.enough))
      go (suc g) e = (g, e)

  whole : (g : ℕ) (r : Got (List ℕ)) → s.fuel ≡ g → string_from g t i ≡ r → string_at t at ≡ with_front front r
  whole g r q e = s.string ∙ ap (λ (f : ℕ). with_front front (string_from f t i)) q ∙ ap (with_front front) e

  pub scan_closed : piece_at t i ≡ closed → string_at t at ≡ got front (i + 1)
  scan_closed e =
      let (g, q) = more (quote_inside t i e) in
      whole (suc g) (got [] (i + 1)) q (step_closed t i g e) ∙ ap (λ (l : List ℕ). got l (i + 1)) (append-nil front)

  scan_on : (n : ℕ) (bs : List ℕ) → Ahead t (i + 1) n → ((f : ℕ) → string_from (suc f) t i ≡ with_front bs (string_from f t n)) → Scanned t at n (front ++ bs)
  scan_on n bs a k =
      let (g, q) = more (omega (arith, a.forward, a.inside)) in
      record {
        fuel = g;
        enough = omega (arith, s.enough, a.forward);
        inside = a.inside;
        string = whole (suc g) (with_front bs (string_from g t n)) q (k g) ∙ front_join front bs (string_from g t n);
      }

  pub scan_raw : (n : ℕ) → piece_at t i ≡ raw n → Scanned t at n (front ++ part t i n)
  scan_raw n e = scan_on n (part t i n) (raw_ahead t i n e) (λ f. step_raw t i f n e)

  pub scan_code : (c n : ℕ) → piece_at t i ≡ code c n → Scanned t at n (front ++ utf8 c)
  scan_code c n e = scan_on n (utf8 c) (code_ahead t i c n e) (λ f. step_code t i f c n e)

  pub scan_bad : (p : ℕ) → piece_at t i ≡ bad p → string_at t at ≡ fault p
  unfolding string_from
  scan_bad p e = go s.fuel refl
    where
      go : (f : ℕ) → s.fuel ≡ f → string_at t at ≡ fault p
      go zero q =
          let y : bad p ≡ bad i = sym e ∙ piece_past t i (sym (past t i (omega (arith, s.enough)))) in
          let z : i ≡ p = cc in
          whole zero (fault i) q refl ∙ ap (λ (x : ℕ). fault x) z
      go (suc f) q = whole (suc f) (fault p) q (step_bad t i f p e)

-- a run of bytes that stand for themselves
pub scan_plains : (t : List ℕ) (at i n : ℕ) (front : List ℕ) → Scanned t at i front → Plains t i n → Scanned t at n (front ++ part t i n)
scan_plains t at i n front s v = go (n - i) i (omega (arith, v.forward)) front s (λ k a b. v.each k a b)
  where
    go : (d j : ℕ) → n ≡ j + d → (xs : List ℕ) → Scanned t at j xs → ((k : ℕ) → j ≤ k → k < n → plain? (byte_at t k) ≡ true) → Scanned t at n (xs ++ part t j n)
    go zero j e xs s f =
        let z : j ≡ n = omega arith in
        subst (λ (m : ℕ). Scanned t at m (xs ++ part t j m)) z (subst (Scanned t at j) (sym (ap (λ (l : List ℕ). xs ++ l) (part_none t j) ∙ append-nil xs)) s)
    go (suc d) j e xs s f =
        subst (Scanned t at n) (append_assoc xs (part t j (j + 1)) (part t (j + 1) n) ∙ ap (λ (l : List ℕ). xs ++ l) (part_join t j (j + 1) n (omega arith) (omega arith)))
        (go d (j + 1) (omega arith) (xs ++ part t j (j + 1)) (scan_raw t at j xs s (j + 1) (plain_piece t j (f j (omega arith) (omega arith)))) (λ k a b. f k (omega arith) b))

-- behind the opening quote
pub scan_start : (t : List ℕ) (at b : ℕ) → b ≡ byte_at t at → b ≡ 34 → Scanned t at (at + 1) []
unfolding string_at
scan_start t at b e q =
    let h : at < length t = byte_inside t at b e (omega arith) in
    record { fuel = length t - at; enough = omega arith; inside = omega arith; string = go (string_from (length t - at) t (at + 1)) }
  where
    go : (g : Got (List ℕ)) → elim (eqb (byte_at t at) 34) [ true ↦ g | false ↦ fault at ] ≡ with_front [] g
    go (got bs n) = rw (eq-eqb (byte_at t at) 34 (sym e ∙ q))
    go (fault p) = rw (eq-eqb (byte_at t at) 34 (sym e ∙ q))

pub no_quote : (t : List ℕ) (at b : ℕ) → b ≡ byte_at t at → (b ≡ 34 → ⊥) → string_at t at ≡ fault at
unfolding string_at
no_quote t at b e q = rw (string_at, ne_eqb (byte_at t at) 34 (λ z. q (e ∙ z)))
