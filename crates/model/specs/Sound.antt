-- Sound automata: every range and order that document 01, section "Sets", lists. Assumes nothing.
use Rattle.std.specs.Prelude.{ℕ, ◌<◌, ◌≤◌, length}
use Rattle.model.specs.Limits.{max_symbols, max_children, max_states, max_tags, max_rules}
use Rattle.model.specs.Automaton.{Automaton, Wellformed, arity_of}
use Rattle.model.specs.Order.{Ascending}

pub record Sound (A : Automaton) : Type 0 where
  pub some_symbol : 0 < length A.arities
  pub few_symbols : length A.arities ≤ max_symbols
  pub some_state : 0 < length A.states
  pub few_states : length A.states ≤ max_states
  pub few_tags : A.tags ≤ max_tags
  pub few_rules : length A.rules ≤ max_rules
  pub few_children : (s : ℕ) → arity_of A s ≤ max_children
  pub wellformed : Wellformed A
  pub ascending : Ascending A.rules
