-- Bytes that agree, at the front of what is compared. Assumes nothing.
use Rattle.std.specs.Prelude.{◌≡◌, List, ℕ, ◌+◌}
use Rattle.jsontext.specs.Scanned.{part}
use Rattle.jsontext.specs.StringAnswers.{Plains}

-- n bytes from i on in s and from j on in t agree and stand for themselves
pub record Alike (s : List ℕ) (i : ℕ) (t : List ℕ) (j n : ℕ) : Type 0 where
  pub first : Plains s i (i + n)
  pub second : Plains t j (j + n)
  pub same : part s i (i + n) ≡ part t j (j + n)
