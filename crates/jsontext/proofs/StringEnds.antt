-- A whole string ends behind its quotes and inside the text; a fault stands at its place or behind, inside the text. Assumes nothing.
use mathlib.Core.Path.{◌≡◌, refl, subst}
use mathlib.Core.Bool.{Bool, true, false}
use mathlib.Core.List.{List}
use Prim.Native.Nat.{ℕ, zero, suc, ◌+◌, ◌-◌, ◌<◌, ◌≤◌}
use native.Mathlib.Omega.{arith}
use lib.Dec.{eqb}
use lib.ListN.{length}
use borrow.Author.Tests.{eqb-true}
use Rattle.base.specs.Text.{byte_at, Got, got, fault}
use Rattle.base.proofs.Bytes.{inside}
use Rattle.jsontext.specs.Strings.{Piece, closed, raw, code, bad, piece_at, with_front, string_from, string_at}
use Rattle.jsontext.specs.StringAnswers.{Ahead}
use Rattle.jsontext.proofs.PieceEnds.{Stops, raw_ahead, code_ahead, bad_stops, quote_inside}
use Rattle.jsontext.proofs.Scanning.{step_closed, step_raw, step_code, step_bad}

-- what a string's end says, for one read from i on
abbrev StringEnds : List ℕ → ℕ → Got (List ℕ) → Type 0
StringEnds t i (got bs n) = Ahead t (i + 1) n
StringEnds t i (fault p) = Stops t i p

front_ends : (t : List ℕ) (i j : ℕ) (bs : List ℕ) (g : Got (List ℕ)) → i ≤ j → j ≤ length t → StringEnds t j g → StringEnds t i (with_front bs g)
front_ends t i j bs (got more n) h k e = record { forward = omega (arith, e.forward); inside = e.inside }
front_ends t i j bs (fault p) h k e = record { forward = omega (arith, e.forward); inside = λ _. e.inside k }

from_ends : (f : ℕ) (t : List ℕ) (i : ℕ) → StringEnds t i (string_from f t i)
unfolding string_from
from_ends zero t i = record { forward = omega arith; inside = λ h. h }
from_ends (suc f) t i = go (piece_at t i) refl (λ n. from_ends f t n)
  where
    go : (p : Piece) → piece_at t i ≡ p → ((n : ℕ) → StringEnds t n (string_from f t n)) → StringEnds t i (string_from (suc f) t i)
    go closed e r = let k = quote_inside t i e in rw (step_closed t i f e) (record { forward = omega arith; inside = omega arith })
    go (raw n) e r = let a = raw_ahead t i n e in rw (step_raw t i f n e) (front_ends t i n _ (string_from f t n) (omega (arith, a.forward)) a.inside (r n))
    go (code c n) e r = let a = code_ahead t i c n e in rw (step_code t i f c n e) (front_ends t i n _ (string_from f t n) (omega (arith, a.forward)) a.inside (r n))
    go (bad p) e r = rw (step_bad t i f p e) (bad_stops t i p e)

-- the same with the opening quote
abbrev WholeEnds : List ℕ → ℕ → Got (List ℕ) → Type 0
WholeEnds t at (got bs n) = Ahead t (at + 2) n
WholeEnds t at (fault p) = Stops t at p

behind_quote : (t : List ℕ) (at : ℕ) (g : Got (List ℕ)) → at < length t → StringEnds t (at + 1) g → WholeEnds t at g
behind_quote t at (got bs n) h e = record { forward = omega (arith, e.forward); inside = e.inside }
behind_quote t at (fault p) h e = record { forward = omega (arith, e.forward); inside = λ _. e.inside (omega arith) }

whole_ends : (t : List ℕ) (at : ℕ) → WholeEnds t at (string_at t at)
unfolding string_at
whole_ends t at = go (eqb (byte_at t at) 34) refl
  where
    go : (b : Bool) → eqb (byte_at t at) 34 ≡ b → WholeEnds t at (elim b [ true ↦ string_from (length t - at) t (at + 1) | false ↦ fault at ])
    go true e =
        let q = eqb-true (byte_at t at) 34 e in
        behind_quote t at (string_from (length t - at) t (at + 1)) (inside t at (omega arith)) (from_ends (length t - at) t (at + 1))
    go false e = record { forward = omega arith; inside = λ h. h }

pub string_ahead : (t : List ℕ) (at : ℕ) (bs : List ℕ) (n : ℕ) → string_at t at ≡ got bs n → Ahead t (at + 2) n
string_ahead t at bs n e = subst (WholeEnds t at) e (whole_ends t at)

pub string_stops : (t : List ℕ) (at p : ℕ) → string_at t at ≡ fault p → Stops t at p
string_stops t at p e = subst (WholeEnds t at) e (whole_ends t at)
