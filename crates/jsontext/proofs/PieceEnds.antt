-- A piece of a string ends behind its place and inside the text, and so does a fault in it. Assumes nothing.
use mathlib.Core.Path.{◌≡◌, refl, sym, ap, ◌∙◌, subst}
use mathlib.Core.Bool.{Bool, true, false, ◌&&◌, ◌||◌}
use mathlib.Core.List.{List, [], ◌∷◌}
use Prim.Native.Nat.{ℕ, zero, suc, ◌+◌, ◌*◌, ◌<◌, ◌≤◌}
use native.Mathlib.Omega.{arith}
use lib.Dec.{T, eqb, ltb}
use lib.ListN.{length}
use borrow.Author.Tests.{eqb-true, eqb-false}
use Rattle.classes.specs.Classes.{either_hex_digit?, control?}
use Rattle.model.specs.Lists.{any}
use Rattle.base.specs.Text.{byte_at, Got, got, fault}
use Rattle.base.proofs.Bytes.{inside, class_inside}
use Rattle.jsontext.specs.Utf8.{Stretch, up_to, broken_at, Sequence, sequences, pass_at, sequence_in, sequence_at}
use Rattle.jsontext.specs.Strings.{Piece, closed, raw, code, bad, simple, hex_value, hex_from, dee?, low?, high?, as_pair, as_raw, first_unit, second_unit, pair_at, unicode_at, escape_at, piece_at}
use Rattle.jsontext.specs.StringAnswers.{Ahead, EscapeInside}
use Rattle.std.specs.Prelude.{Result, Ok, Err}
use Rattle.base.specs.declared.text.Fault.{Fault}
use Rattle.jsontext.proofs.LeadRows.{size_bounds, sequence_size}
use Rattle.jsontext.proofs.HexDigits.{hex_inside}
use Rattle.jsontext.proofs.Ways.{dee_inside, simple_inside, plain_inside, piece_control}

-- a fault at p, found from i on
pub record Stops (t : List ℕ) (i p : ℕ) : Type 0 where
  pub forward : i ≤ p
  pub inside : i ≤ length t → p ≤ length t

-- what hex digits, a stretch and a piece say of their ends
abbrev HexEnds : List ℕ → ℕ → Got ℕ → Type 0
HexEnds t i (got v n) = Ahead t i n
HexEnds t i (fault p) = Stops t i p

abbrev StretchEnds : List ℕ → ℕ → ℕ → Stretch → Type 0
StretchEnds t i j (up_to n) = Ahead t j n
StretchEnds t i j (broken_at p) = Stops t i p

abbrev Ends : List ℕ → ℕ → Piece → Type 0
Ends t i closed = T true
Ends t i (raw n) = Ahead t (i + 1) n
Ends t i (code c n) = Ahead t (i + 1) n
Ends t i (bad p) = Stops t i p

here : (t : List ℕ) (i : ℕ) → Stops t i i
here t i = record { forward = omega arith; inside = λ h. h }

behind : (t : List ℕ) (i : ℕ) → i < length t → Stops t i (i + 1)
behind t i h = record { forward = omega arith; inside = λ _. omega arith }

stops_later : (t : List ℕ) (i j p : ℕ) → i ≤ j → j ≤ length t → Stops t j p → Stops t i p
stops_later t i j p h k e = record { forward = omega (arith, e.forward); inside = λ _. e.inside k }

later : (t : List ℕ) (i j : ℕ) (g : Got ℕ) → i ≤ j → j ≤ length t → HexEnds t j g → HexEnds t i g
later t i j (got v n) h k e = record { forward = omega (arith, e.forward); inside = e.inside }
later t i j (fault p) h k e = stops_later t i j p h k e

later_stretch : (t : List ℕ) (i j k : ℕ) (s : Stretch) → i ≤ j → k ≤ j → j ≤ length t → StretchEnds t j j s → StretchEnds t i k s
later_stretch t i j k (up_to n) h l m e = record { forward = omega (arith, e.forward); inside = e.inside }
later_stretch t i j k (broken_at p) h l m e = stops_later t i j p h m e

-- ---- bytes above 127: no test of the table lets 0 pass
neither : (a b : Bool) → (a || b) ≡ false → (a ≡ false) × (b ≡ false)
neither false b e = (refl, e)
neither true b e = let z : ◌≡◌ {A = ℕ} 0 1 = cc in absurd (omega arith)

pass_end : (ps : List (ℕ → Bool)) (t : List ℕ) (i : ℕ) → any (λ p. p 0) ps ≡ false → i ≤ length t → StretchEnds t i i (pass_at ps t i)
unfolding pass_at
pass_end [] t i z h = record { forward = omega arith; inside = h }
pass_end (p ∷ ps) t i z h = let (none, rest) = neither (p 0) (any (λ q. q 0) ps) z in go none (pass_end ps t (i + 1) rest) (p (byte_at t i)) refl
  where
    go : p 0 ≡ false → (i + 1 ≤ length t → StretchEnds t (i + 1) (i + 1) (pass_at ps t (i + 1))) → (b : Bool) → p (byte_at t i) ≡ b
        → StretchEnds t i i (elim b [ true ↦ pass_at ps t (i + 1) | false ↦ broken_at i ])
    go none r true e = let k = class_inside p none t i e in later_stretch t i (i + 1) i (pass_at ps t (i + 1)) (omega arith) (omega arith) (omega arith) (r (omega arith))
    go none r false e = here t i

-- a row lets 0 pass somewhere
abbrev zero_passes : Sequence → Bool
zero_passes s = s.lead 0 || any (λ p. p 0) s.more

row_end : (ss : List Sequence) (t : List ℕ) (i : ℕ) → any zero_passes ss ≡ false → StretchEnds t i (i + 1) (sequence_in ss t i)
unfolding sequence_in
row_end [] t i z = here t i
row_end (s ∷ ss) t i z = let (none, rest) = neither (zero_passes s) (any zero_passes ss) z in go (neither (s.lead 0) (any (λ p. p 0) s.more) none) (row_end ss t i rest) (s.lead (byte_at t i)) refl
  where
    go : (s.lead 0 ≡ false) × (any (λ p. p 0) s.more ≡ false) → StretchEnds t i (i + 1) (sequence_in ss t i) → (b : Bool) → s.lead (byte_at t i) ≡ b
        → StretchEnds t i (i + 1) (elim b [ true ↦ pass_at s.more t (i + 1) | false ↦ sequence_in ss t i ])
    go (lead, more) r true e =
        let k = class_inside s.lead lead t i e in
        later_stretch t i (i + 1) (i + 1) (pass_at s.more t (i + 1)) (omega arith) (omega arith) (omega arith) (pass_end s.more t (i + 1) more (omega arith))
    go (lead, more) r false e = r

sequence_end : (t : List ℕ) (i : ℕ) → StretchEnds t i (i + 1) (sequence_at t i)
unfolding sequence_at
sequence_end t i = row_end sequences t i refl

-- ---- escapes
hex_end : (n : ℕ) (t : List ℕ) (v i : ℕ) → i ≤ length t → HexEnds t i (hex_from n t v i)
unfolding hex_from
hex_end zero t v i h = record { forward = omega arith; inside = h }
hex_end (suc n) t v i h = go (hex_end n t (v * 16 + hex_value (byte_at t i)) (i + 1)) (either_hex_digit? (byte_at t i)) refl
  where
    go : (i + 1 ≤ length t → HexEnds t (i + 1) (hex_from n t (v * 16 + hex_value (byte_at t i)) (i + 1))) → (b : Bool) → either_hex_digit? (byte_at t i) ≡ b
        → HexEnds t i (elim b [ true ↦ hex_from n t (v * 16 + hex_value (byte_at t i)) (i + 1) | false ↦ fault i ])
    go r true e = let k = hex_inside t i e in later t i (i + 1) (hex_from n t (v * 16 + hex_value (byte_at t i)) (i + 1)) (omega arith) (omega arith) (r (omega arith))
    go r false e = here t i

first_end : (t : List ℕ) (i : ℕ) → i ≤ length t → HexEnds t i (first_unit t i)
unfolding first_unit
first_end t i h = go (dee? (byte_at t i)) refl (low? (byte_at t (i + 1)))
  where
    go : (b : Bool) → dee? (byte_at t i) ≡ b → (d : Bool) → HexEnds t i (elim (b && d) [ true ↦ fault (i + 1) | false ↦ hex_from 4 t 0 i ])
    go true e true = behind t i (dee_inside t i e)
    go true e false = hex_end 4 t 0 i h
    go false e d = hex_end 4 t 0 i h

second_end : (t : List ℕ) (i : ℕ) → i ≤ length t → HexEnds t i (second_unit t i)
unfolding second_unit
second_end t i h = go (dee? (byte_at t i)) refl (low? (byte_at t (i + 1)))
  where
    go : (b : Bool) → dee? (byte_at t i) ≡ b → (d : Bool) → HexEnds t i (elim b [ false ↦ fault i | true ↦ elim d [ false ↦ fault (i + 1) | true ↦ hex_from 4 t 0 i ] ])
    go false e d = here t i
    go true e false = behind t i (dee_inside t i e)
    go true e true = hex_end 4 t 0 i h

as_pair_lem : (t : List ℕ) (i v : ℕ) (g : Got ℕ) → i + 1 ≤ length t → HexEnds t (i + 1) g → Ends t i (as_pair v g)
as_pair_lem t i v (got w n) h e = e
as_pair_lem t i v (fault p) h e = stops_later t i (i + 1) p (omega arith) h e

as_raw_lem : (t : List ℕ) (i : ℕ) (s : Stretch) → StretchEnds t i (i + 1) s → Ends t i (as_raw s)
as_raw_lem t i (up_to n) e = e
as_raw_lem t i (broken_at p) e = e

is_inside : (t : List ℕ) (i b : ℕ) → 0 < b → eqb (byte_at t i) b ≡ true → i < length t
is_inside t i b h e = let k = eqb-true (byte_at t i) b e in inside t i (omega arith)

pair_end : (t : List ℕ) (i v n : ℕ) → i + 1 ≤ n → n ≤ length t → Ends t i (pair_at t v n)
unfolding pair_at
pair_end t i v n h l = go (eqb (byte_at t n) 92) refl (eqb (byte_at t (n + 1)) 117) refl
  where
    go : (b : Bool) → eqb (byte_at t n) 92 ≡ b → (d : Bool) → eqb (byte_at t (n + 1)) 117 ≡ d
        → Ends t i (elim b [ false ↦ bad n | true ↦ elim d [ false ↦ bad (n + 1) | true ↦ as_pair v (second_unit t (n + 2)) ] ])
    go false e d f = record { forward = omega arith; inside = λ _. l }
    go true e false f = let k = is_inside t n 92 (omega arith) e in record { forward = omega arith; inside = λ _. omega arith }
    go true e true f =
        let k = is_inside t (n + 1) 117 (omega arith) f in
        as_pair_lem t i v (second_unit t (n + 2)) (omega arith) (later t (i + 1) (n + 2) (second_unit t (n + 2)) (omega arith) (omega arith) (second_end t (n + 2) (omega arith)))

unicode_end : (t : List ℕ) (i j : ℕ) → i + 1 ≤ j → j ≤ length t → Ends t i (unicode_at t j)
unfolding unicode_at
unicode_end t i j h k = go (first_unit t j) (first_end t j k)
  where
    or : (b : Bool) (v n : ℕ) → Ahead t j n → Ends t i (elim b [ true ↦ pair_at t v n | false ↦ code v n ])
    or true v n e = pair_end t i v n (omega (arith, e.forward)) e.inside
    or false v n e = record { forward = omega (arith, e.forward); inside = e.inside }

    go : (g : Got ℕ) → HexEnds t j g → Ends t i (elim g [ fault p ↦ bad p | got v n ↦ elim (high? v) [ true ↦ pair_at t v n | false ↦ code v n ] ])
    go (fault p) e = stops_later t i j p (omega arith) k e
    go (got v n) e = or (high? v) v n e

escape_end : (t : List ℕ) (i : ℕ) → i < length t → Ends t i (escape_at t (i + 1))
unfolding escape_at
escape_end t i l = go (eqb (byte_at t (i + 1)) 117) (eqb (simple (byte_at t (i + 1))) 0) refl refl
  where
    go : (b d : Bool) → eqb (byte_at t (i + 1)) 117 ≡ b → eqb (simple (byte_at t (i + 1))) 0 ≡ d
        → Ends t i (elim b [ true ↦ unicode_at t (i + 1 + 1) | false ↦ elim d [ true ↦ bad (i + 1) | false ↦ code (simple (byte_at t (i + 1))) (i + 1 + 1) ] ])
    go true d e f = let k = is_inside t (i + 1) 117 (omega arith) e in unicode_end t i (i + 1 + 1) (omega arith) (omega arith)
    go false true e f = behind t i l
    go false false e f =
        let k = simple_inside t (i + 1) (byte_at t (i + 1)) (simple (byte_at t (i + 1))) refl refl (eqb-false (simple (byte_at t (i + 1))) 0 f) in
        record { forward = omega arith; inside = omega arith }

-- ---- every piece
piece_end : (t : List ℕ) (i : ℕ) → Ends t i (piece_at t i)
unfolding piece_at
piece_end t i = go (eqb (byte_at t i) 34) (eqb (byte_at t i) 92) refl (control? (byte_at t i)) refl (ltb (byte_at t i) 128)
  where
    go : (a b : Bool) → eqb (byte_at t i) 92 ≡ b → (c : Bool) → control? (byte_at t i) ≡ c → (d : Bool)
        → Ends t i (elim a [ true ↦ closed | false ↦ elim b [ true ↦ escape_at t (i + 1) | false ↦ elim c [ true ↦ bad i | false ↦ elim d [ true ↦ raw (i + 1) | false ↦ as_raw (sequence_at t i) ] ] ] ])
    go true b f c e d = tt
    go false true f c e d = escape_end t i (is_inside t i 92 (omega arith) f)
    go false false f true e d = here t i
    go false false f false e true = let k = plain_inside t i (byte_at t i) refl e in record { forward = omega arith; inside = omega arith }
    go false false f false e false = as_raw_lem t i (sequence_at t i) (sequence_end t i)

module _ (t : List ℕ) (i : ℕ) where
  pub raw_ahead : (n : ℕ) → piece_at t i ≡ raw n → Ahead t (i + 1) n
  raw_ahead n e = subst (Ends t i) e (piece_end t i)

  pub code_ahead : (c n : ℕ) → piece_at t i ≡ code c n → Ahead t (i + 1) n
  code_ahead c n e = subst (Ends t i) e (piece_end t i)

  pub bad_stops : (p : ℕ) → piece_at t i ≡ bad p → Stops t i p
  bad_stops p e = subst (Ends t i) e (piece_end t i)

  -- past the end no rule allows a byte
  pub piece_past : byte_at t i ≡ 0 → piece_at t i ≡ bad i
  unfolding control?
  piece_past e = sym (piece_control t i (byte_at t i) refl (λ z. omega arith) (λ z. omega arith) (ap control? e))

  pub quote_inside : piece_at t i ≡ closed → i < length t
  quote_inside e = inside t i (go (byte_at t i) refl)
    where
      go : (b : ℕ) → byte_at t i ≡ b → 0 < byte_at t i
      go zero z = let y : closed ≡ bad i = sym e ∙ piece_past z in let w : ◌≡◌ {A = ℕ} 0 1 = cc in absurd (omega arith)
      go (suc b) z = omega arith

-- ---- what the answers say of their places, whatever table is lent
pub escape_later : (t : List ℕ) (i j : ℕ) (r : Result (ℕ × ℕ) Fault) → i ≤ j → EscapeInside t j r → EscapeInside t i r
escape_later t i j (Ok r) h e = record { forward = omega (arith, e.forward); inside = e.inside }
escape_later t i j (Err f) h e = e

pub sequence_inside : (t : List ℕ) (i n : ℕ) → byte_at t i < 256 → up_to n ≡ sequence_at t i → Ahead t (i + 1) n × (n ≤ i + 4)
sequence_inside t i n h e = (subst (StretchEnds t i (i + 1)) (sym e) (sequence_end t i), omega (arith, sequence_size t i n h (sym e), size_bounds (byte_at t i)))
