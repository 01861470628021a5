-- What the answers of the functions on strings stand for. Assumes nothing.
use Rattle.std.specs.Prelude.{◌≡◌, true, cond, List, ℕ, ◌+◌, ◌≤◌, ◌<◌, T, length, Result, Ok, Err}
use Rattle.base.specs.Text.{byte_at, Got, got, fault}
use Rattle.jsontext.specs.Utf8.{Stretch, up_to, broken_at}
use Rattle.jsontext.specs.Strings.{Piece, closed, raw, code, bad, plain?}
use Rattle.base.specs.declared.text.Fault.{Fault}
use Rattle.jsontext.specs.declared.pieces.StringPiece.{StringPiece}
use Rattle.jsontext.specs.declared.pieces.StringPiece.TheVariants.{Closed, Raw, Code}

abbrev pub stretch_of : Result ℕ Fault → Stretch
stretch_of (Ok n) = up_to n
stretch_of (Err f) = broken_at f.0

abbrev pub hex_of : Result (ℕ × ℕ) Fault → Got ℕ
hex_of (Ok r) = got r.0 r.1
hex_of (Err f) = fault f.0

abbrev pub piece_of : Result StringPiece Fault → Piece
piece_of (Ok Closed) = closed
piece_of (Ok (Raw n)) = raw n
piece_of (Ok (Code c n)) = code c n
piece_of (Err f) = bad f.0

-- from i on inside the text
pub record Ahead (t : List ℕ) (i n : ℕ) : Type 0 where
  pub forward : i ≤ n
  pub inside : n ≤ length t

-- what the answers say of their places, whatever table of byte classes is lent: behind `at` and inside the text. Bytes that stand for themselves are few
abbrev pub HexInside : List ℕ → ℕ → Result (ℕ × ℕ) Fault → Type 0
HexInside t at (Ok r) = Ahead t (at + 4) r.1
HexInside t at (Err f) = T true

abbrev pub EscapeInside : List ℕ → ℕ → Result (ℕ × ℕ) Fault → Type 0
EscapeInside t at (Ok r) = Ahead t at r.1
EscapeInside t at (Err f) = T true

abbrev pub PieceInside : List ℕ → ℕ → Result StringPiece Fault → Type 0
PieceInside t at (Ok Closed) = T true
PieceInside t at (Ok (Raw n)) = Ahead t (at + 1) n × (n ≤ at + 4)
PieceInside t at (Ok (Code c n)) = Ahead t (at + 1) n
PieceInside t at (Err f) = T true

abbrev pub slot_of : Result (ℕ × ℕ) Fault → Got ℕ
slot_of (Ok r) = got r.0 r.1
slot_of (Err f) = fault f.0

-- the bytes from i up to n stand for themselves
pub record Plains (t : List ℕ) (i n : ℕ) : Type 0 where
  pub forward : i ≤ n
  pub inside : n ≤ length t
  pub each : (k : ℕ) → i ≤ k → k < n → plain? (byte_at t k) ≡ true

-- the highest bit of a byte, where the byte does not stand for itself
abbrev pub mark : ℕ → ℕ
mark b = cond (plain? b) 0 128
