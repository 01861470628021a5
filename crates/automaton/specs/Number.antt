-- What is said of a number that is read at a place (document 01, section "Sets": all numbers little-endian). Assumes nothing.
use Rattle.std.specs.Prelude.{◌≡◌, List, ℕ, ◌%◌, get_or}
use Rattle.automaton.specs.Stored.{word}

-- n is the 16-bit number at byte k, and its low byte is the byte there
abbrev pub NumberAt : List ℕ → ℕ → ℕ → Type 0
NumberAt s k n = (n ≡ word s k) × (n % 256 ≡ get_or s k 0)
