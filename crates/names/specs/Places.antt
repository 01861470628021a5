-- Where the lines of a name list stand in its bytes. Assumes nothing.
use Rattle.std.specs.Prelude.{◌≡◌, List, [], ℕ, ◌+◌, ◌-◌, ◌≤◌, length, get_or, take, drop}
use Rattle.names.specs.Lines.{lines}

-- The line that starts at place a ends at place e.
pub record Ended (s : List ℕ) (a e : ℕ) : Type 0 where
  pub from : a ≤ e
  pub inside : e ≤ length s
  pub line : take (e - a) (drop a s) ≡ get_or (lines (drop a s)) 0 []
  pub behind : lines (drop (e + 1) s) ≡ drop 1 (lines (drop a s))

-- Line i starts at place a, which is the end where there is no line i.
pub record Starts (s : List ℕ) (i a : ℕ) : Type 0 where
  pub inside : a ≤ length s
  pub lines_from : lines (drop a s) ≡ drop i (lines s)
