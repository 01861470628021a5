-- A character of a string after decoding, its bytes joined into a number. Assumes nothing.
use Rattle.std.specs.Prelude.{◌≡◌, true, List, ℕ, ◌+◌, ◌≤◌, ◌<◌, T, length, Result, Ok, Err}
use Rattle.base.specs.declared.text.Fault.{Fault}
use Rattle.jsontext.specs.Strings.{bad, piece_at}
use Rattle.jsontext.specs.Productions.{CharAt}
use Rattle.jsontext.specs.Decoded.{join_bytes}
use Rattle.jsontext.specs.Kept.{Bytes}
use Rattle.jsontext.specs.StringAnswers.{Ahead}
use Rattle.jsontext.specs.declared.chars.Packed.{Packed}

-- the m bytes bs, joined into w
pub record Joined (bs : List ℕ) (w m : ℕ) : Type 0 where
  pub bytes : Bytes bs
  pub count : m ≡ length bs
  pub joined : w ≡ join_bytes bs

-- from i up to n stands a char, and its m bytes are joined into w
pub record Character (t : List ℕ) (i w m n : ℕ) : Type 0 where
  pub bs : List ℕ
  pub char : CharAt t i bs n
  pub is : Joined bs w m

-- what an answer says of the place i
abbrev pub CharSays : List ℕ → ℕ → Result (Packed × ℕ) Fault → Type 0
CharSays t i (Ok r) = Character t i r.0.bytes r.0.count r.1
CharSays t i (Err f) = piece_at t i ≡ bad f.0

-- what an answer says of its places, whatever table of byte classes is lent
abbrev pub CharInside : List ℕ → ℕ → Result (Packed × ℕ) Fault → Type 0
CharInside t i (Ok r) = Ahead t (i + 1) r.1 × (0 < r.0.count) × (r.0.count ≤ 4)
CharInside t i (Err f) = T true
