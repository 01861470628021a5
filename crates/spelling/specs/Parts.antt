-- What the writer's parts leave behind. Assumes nothing.
use Rattle.std.specs.Prelude.{◌≡◌, List, ℕ, ◌+◌, length, drop}
use Rattle.model.specs.Space.{put_at}
use Rattle.spelling.specs.declared.piece.Piece.{Piece}

-- the most bytes of a scalar: a sign and twenty digits
abbrev pub piece_bytes : ℕ
piece_bytes = 21

-- the bytes of a piece from its start on
abbrev pub text_of : Piece → List ℕ
text_of p = drop p.start p.bytes

-- These are the text, which ends where the piece does.
pub record Holds (p : Piece) (text : List ℕ) : Type 0 where
  pub is : text_of p ≡ text
  pub size : p.start + length text ≡ piece_bytes
  pub long : length p.bytes ≡ piece_bytes

-- The text was put at a place, and r is the place after it.
pub record Wrote (before : List ℕ) (at : ℕ) (text : List ℕ) (after : List ℕ) (r : ℕ) : Type 0 where
  pub place : r ≡ at + length text
  pub is : after ≡ put_at before at text
