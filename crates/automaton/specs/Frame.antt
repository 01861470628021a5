-- What the test of a rule needs of the header. Assumes nothing.
use Rattle.std.specs.Prelude.{◌≡◌, List, ℕ}
use Rattle.automaton.specs.Stored.{symbol_count, state_count, symbols_at}

-- so many symbols and states, and the symbols start there, as the header of the bytes s says
pub record Framed (s : List ℕ) (symbols states arities : ℕ) : Type 0 where
  pub symbol_count_is : symbols ≡ symbol_count s
  pub state_count_is : states ≡ state_count s
  pub symbols_from : arities ≡ symbols_at s
