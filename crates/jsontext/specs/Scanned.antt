-- A string read up to a place. Assumes nothing.
use Rattle.std.specs.Prelude.{◌≡◌, List, ℕ, ◌+◌, ◌-◌, ◌≤◌, length, take, drop}
use Rattle.jsontext.specs.Strings.{with_front, string_from, string_at}

-- the bytes from i up to n
abbrev pub part : List ℕ → ℕ → ℕ → List ℕ
part t i n = take (n - i) (drop i t)

-- Of the string at `at`, the bytes `front` were decoded before place i, and what is decoded from i on follows them; the pieces left are enough for the bytes left.
pub record Scanned (t : List ℕ) (at i : ℕ) (front : List ℕ) : Type 0 where
  pub fuel : ℕ
  pub enough : length t ≤ i + fuel
  pub inside : i ≤ length t
  pub string : string_at t at ≡ with_front front (string_from fuel t i)
