-- A short string whose bytes all stand for themselves, and bytes that stand at two places of a text. Assumes nothing.
use Rattle.std.specs.Prelude.{◌≡◌, List, ℕ, ◌+◌, ◌<◌, ◌≤◌, length}
use Rattle.base.specs.Text.{byte_at}
use Rattle.jsontext.specs.Decoded.{text_slot}
use Rattle.jsontext.specs.Scanned.{part}
use Rattle.jsontext.specs.StringAnswers.{Plains}

-- A string at a place, up to its closing quote, and the slot of its bytes.
pub record ShortAt (t : List ℕ) (at slot end : ℕ) : Type 0 where
  pub opens : byte_at t at ≡ 34
  pub plain : Plains t (at + 1) end
  pub closes : byte_at t end ≡ 34
  pub slot_is : slot ≡ text_slot (part t (at + 1) end)

-- The n bytes at place j are those at place i.
pub record SameBytes (t : List ℕ) (i j n : ℕ) : Type 0 where
  pub inside : j + n ≤ length t
  pub same : (k : ℕ) → k < n → byte_at t (j + k) ≡ byte_at t (i + k)
