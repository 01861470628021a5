-- The rules' child places as one row of numbers, and for each state the list of those that name it. Assumes nothing.
use Rattle.std.specs.Prelude.{◌≡◌, List, Bool, ◌&&◌, ℕ, suc, ◌+◌, ◌*◌, ◌/◌, ◌%◌, ◌<◌, ◌≤◌, eqb, leb, length, get_or}
use Rattle.model.specs.Limits.{max_children, max_states, max_rules}
use Rattle.model.specs.Lists.{any_below}
use Rattle.model.specs.Automaton.{Automaton}
use Rattle.model.specs.Order.{place}
use Rattle.model.specs.Written.{rule_at}

-- the state at place p, which is place p % 4 of rule p / 4
unfoldable pub child_at : Automaton → ℕ → ℕ
child_at A p = place (rule_at A (p / max_children)) (p % max_children)

-- how many places there are
abbrev pub places_of : Automaton → ℕ
places_of A = length A.rules * max_children

-- rule i names state q at a place from number x on
unfoldable pub named? : Automaton → ℕ → ℕ → ℕ → Bool
named? A q x i = any_below max_children (λ k. leb x (i * max_children + k) && eqb (place (rule_at A i) k) q)

-- x is 1 more than the last place below p that names state q, or 0 where there is none
pub record Last (A : Automaton) (q p x : ℕ) : Type 0 where
  pub inside : x ≤ p
  pub names : (y : ℕ) → x ≡ suc y → child_at A y ≡ q
  pub no_later : (y : ℕ) → x ≤ y → y < p → child_at A y ≡ q → ⊥

-- the lists of the states, over the places below p
pub record Linked (A : Automaton) (p : ℕ) (last before : List ℕ) : Type 0 where
  pub for_states : length last ≡ max_states
  pub for_places : length before ≡ max_rules * max_children
  pub lasts : (q : ℕ) → q < max_states → Last A q p (get_or last q 0)
  pub befores : (y : ℕ) → y < p → child_at A y < max_states → Last A (child_at A y) y (get_or before y 0)
