-- Union and product (document 01, section "Joining, demanding both, and the sample"). Assumes nothing.
use Rattle.std.specs.Prelude.{List, [], ◌∷◌, ◌++◌, map, ◌&&◌, ℕ, ◌+◌, ◌*◌, ◌/◌, ◌%◌, ◌^◌, eqb, length}
use Rattle.model.specs.Lists.{concat_map, only, tab}
use Rattle.model.specs.Automaton.{Rule, State, Automaton, state_at}
use Rattle.model.specs.Order.{sorted}

abbrev pub shift_state : ℕ → State → State
shift_state t q = record { final = q.final; mask = q.mask * 2 ^ t }

-- states shifted by n, tags by t
abbrev pub shift_rule : ℕ → ℕ → Rule → Rule
shift_rule n t r = record { symbol = r.symbol; children = map (n +◌) r.children; target = n + r.target; forget = r.forget * 2 ^ t }

-- The first's states and tags, then the second's, shifted.
abbrev pub union : Automaton → Automaton → Automaton
union A B =
    record {
      arities = A.arities;
      states = A.states ++ map (shift_state A.tags) B.states;
      tags = A.tags + B.tags;
      rules = sorted (A.rules ++ map (shift_rule (length A.states) A.tags) B.rules);
    }

-- A pair of states is final if both are, and carries the tags of the first and the shifted tags of the second.
abbrev pub pair_state : ℕ → State → State → State
pair_state t p q = record { final = p.final && q.final; mask = p.mask + q.mask * 2 ^ t }

-- the numbers of the pairs (p, q), n being the number of the second's states
abbrev pub pair_numbers : ℕ → List ℕ → List ℕ → List ℕ
pair_numbers n [] qs = []
pair_numbers n (p ∷ ps) [] = []
pair_numbers n (p ∷ ps) (q ∷ qs) = (p * n + q) ∷ pair_numbers n ps qs

-- .. forgets every tag that either forgets, the second's shifted
abbrev pub pair_rule : ℕ → ℕ → Rule → Rule → Rule
pair_rule n t r s =
    record { symbol = r.symbol; children = pair_numbers n r.children s.children; target = r.target * n + s.target; forget = r.forget + s.forget * 2 ^ t }

-- one rule for each pair of rules with the same symbol
abbrev pub pair_rules : ℕ → ℕ → List Rule → List Rule → List Rule
pair_rules n t rs ss = concat_map (λ r. concat_map (λ s. only (eqb r.symbol s.symbol) (pair_rule n t r s ∷ [])) ss) rs

abbrev pub product : Automaton → Automaton → Automaton
product A B =
    record {
      arities = A.arities;
      states = tab (length A.states * length B.states) (λ n. pair_state A.tags (state_at A (n / length B.states)) (state_at B (n % length B.states)));
      tags = A.tags + B.tags;
      rules = sorted (pair_rules (length B.states) A.tags A.rules B.rules);
    }
