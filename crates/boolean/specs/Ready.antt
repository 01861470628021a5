-- What is known of two sets that are not refused, and how large their result is. Assumes nothing.
use Rattle.std.specs.Prelude.{◌≡◌, List, [], ◌∷◌, ◌++◌, map, ℕ, ◌+◌, ◌≤◌, eqb, length, take}
use Rattle.model.specs.Limits.{max_states, max_tags, max_rules}
use Rattle.model.specs.Lists.{concat_map, only}
use Rattle.model.specs.Automaton.{Rule, Automaton}
use Rattle.model.specs.Boolean.{pair_rule}
use Rattle.automaton.specs.declared.Form.{Form}
use Rattle.automaton.specs.Encode.{encode_header, encode_symbol}
use Rattle.automaton.specs.Window.{FirstFrom}
use Rattle.automaton.specs.Stored.{decode}
use Rattle.automaton.specs.Check.{check_of}
use Rattle.boolean.specs.declared.Size.{Size}
use Rattle.boolean.specs.Key.{packed}

-- both sets are sound and have the same symbols, and the result R is within the limits
pub record Ready (first second : List ℕ) (R : Automaton) : Type 0 where
  pub first_sound : check_of first ≡ 0
  pub second_sound : check_of second ≡ 0
  pub same : (decode first).arities ≡ (decode second).arities
  pub states : length R.states ≤ max_states
  pub tags : R.tags ≤ max_tags
  pub rules : length R.rules ≤ max_rules

-- the counts of an automaton
pub record Sized (size : Size) (R : Automaton) : Type 0 where
  pub states : size.states ≡ length R.states
  pub tags : size.tags ≡ R.tags
  pub rules : size.rules ≡ length R.rules

-- the first n of a space are the keys of R's rules
pub record Keyed (R : Automaton) (space : List ℕ) (n : ℕ) : Type 0 where
  pub few : n ≤ length space
  pub holds : take n space ≡ map packed R.rules

-- the rules of symbol f are those from one rule up to another
pub record Window (A : Automaton) (f from to : ℕ) : Type 0 where
  pub starts : FirstFrom A f from
  pub stops : FirstFrom A (f + 1) to

-- the rules that pair a rule with the rules of B with its symbol, B's tags shifted by t
abbrev pub row : ℕ → Automaton → Rule → List Rule
row t B r = concat_map (λ s. only (eqb r.symbol s.symbol) (pair_rule (length B.states) t r s ∷ [])) B.rules

-- a stored form of a result up to its states: the symbols are those of A
abbrev pub front : Form → Automaton → ℕ → ℕ → ℕ → List ℕ
front form A states tags rules = encode_header form (length A.arities) states tags rules ++ concat_map encode_symbol A.arities
