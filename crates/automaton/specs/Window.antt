-- The rules of one symbol: where a search finds them. In a sound set they stand together, since rules ascend by symbol first. Assumes nothing.
use Rattle.std.specs.Prelude.{Bool, cond, ℕ, zero, suc, ◌+◌, ◌-◌, ◌/◌, ◌≤◌, ◌<◌, ltb, length}
use Rattle.model.specs.Automaton.{Automaton}
use Rattle.model.specs.Written.{rule_at}

-- the index tried between low and high
abbrev pub halfway : ℕ → ℕ → ℕ
halfway low high = low + (high - low) / 2

-- where bisection between low and high ends: it goes above an index that passes the test, and down to one that does not; `fuel` bounds its steps
unfoldable pub bisect : ℕ → (ℕ → Bool) → ℕ → ℕ → ℕ
bisect zero p low high = low
bisect (suc fuel) p low high =
    cond (ltb low high) (cond (p (halfway low high)) (bisect fuel p (halfway low high + 1) high) (bisect fuel p low (halfway low high))) low

-- rule i has a symbol below f
abbrev pub below? : Automaton → ℕ → ℕ → Bool
below? A f i = ltb (rule_at A i).symbol f

-- where bisection for the first rule whose symbol is f or higher ends, whatever the order of the rules; each step leaves fewer of them
unfoldable pub rules_from : Automaton → ℕ → ℕ
rules_from A f = bisect (length A.rules) (below? A f) 0 (length A.rules)

-- i is the first rule whose symbol is f or higher, or the number of rules
pub record FirstFrom (A : Automaton) (f i : ℕ) : Type 0 where
  pub within : i ≤ length A.rules
  pub before : (j : ℕ) → j < i → (rule_at A j).symbol < f
  pub after : (j : ℕ) → i ≤ j → j < length A.rules → f ≤ (rule_at A j).symbol
