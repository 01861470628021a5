-- Marking with numbers: a state's mark is 0, or 1 more than the rule that marks it (document 01, section "Joining, demanding both, and the sample"). Assumes nothing.
use Rattle.std.specs.Prelude.{◌≡◌, List, Bool, true, false, ◌||◌, not, ℕ, zero, suc, ◌<◌, ◌≤◌, T, eqb, length, get_or}
use Rattle.std.specs.Prelude.{ltb, None, Some}
use Rattle.std.specs.Prelude.{Option as Perhaps}
use Rattle.std.proofs.Math.Option.{Option, none, some}
use Rattle.model.specs.Limits.{max_states}
use Rattle.model.specs.Lists.{all_below}
use Rattle.model.specs.Tree.{Tree, node, forest, levels}
use Rattle.model.specs.Automaton.{Rule, Automaton, final?}
use Rattle.model.specs.Order.{place}
use Rattle.model.specs.Written.{rule_at}
use Rattle.model.specs.Witness.{trees_in, rounds, witness}
use Rattle.automaton.specs.declared.State.{State}
use Rattle.emptiness.specs.declared.marking.Marking.{Marking}
use Rattle.emptiness.specs.Places.{named?}

-- state q is marked
unfoldable pub marked? : List ℕ → ℕ → Bool
marked? marks q = not (eqb (get_or marks q 0) 0)

-- child k of a rule is marked
unfoldable pub child_marked? : List ℕ → Rule → ℕ → Bool
child_marked? marks r k = marked? marks (place r k)

-- all child states of a rule are marked
abbrev pub ready? : List ℕ → Rule → Bool
ready? marks r = all_below (length r.children) (child_marked? marks r)

-- rule i leads to state q from states that are marked
pub record Ready (A : Automaton) (marks : List ℕ) (q i : ℕ) : Type 0 where
  pub known : i < length A.rules
  pub target : (rule_at A i).target ≡ q
  pub ready : ready? marks (rule_at A i) ≡ true

-- A round in which the rules of `done` were tried: `next` has the marks of before it, and for each state that these lead to the first of them; the first n of `added` are the states that it marks.
pub record Tried (A : Automaton) (marks : List ℕ) (done : ℕ → Bool) (next added : List ℕ) (n : ℕ) : Type 0 where
  pub long : length next ≡ max_states
  pub room : length added ≡ max_states
  pub keeps : (q : ℕ) → (get_or marks q 0 ≡ 0 → ⊥) → get_or next q 0 ≡ get_or marks q 0
  pub by : (q i : ℕ) → get_or marks q 0 ≡ 0 → get_or next q 0 ≡ suc i → Ready A marks q i
  pub first : (q i : ℕ) → Ready A marks q i → T (done i) → get_or marks q 0 ≡ 0 → (get_or next q 0 ≡ 0 → ⊥) × (get_or next q 0 ≤ suc i)
  pub listed : (q : ℕ) → get_or marks q 0 ≡ 0 → (get_or next q 0 ≡ 0 → ⊥) → (x : ℕ) × (x < n) × (get_or added x 0 ≡ q)
  pub new : (x : ℕ) → x < n → (get_or marks (get_or added x 0) 0 ≡ 0) × (get_or next (get_or added x 0) 0 ≡ 0 → ⊥)
  pub once : (x y : ℕ) → x < n → y < n → get_or added x 0 ≡ get_or added y 0 → x ≡ y

-- the rules of `more` were tried as well
pub record Tries (A : Automaton) (marks : List ℕ) (more : ℕ → Bool) (next added : List ℕ) (n : ℕ) (next' added' : List ℕ) (n' : ℕ) : Type 0 where
  pub gives : (done : ℕ → Bool) → Tried A marks done next added n → Tried A marks (λ j. done j || more j) next' added' n'

-- rule i alone
unfoldable pub this? : ℕ → ℕ → Bool
this? i j = eqb j i

-- one of the first n rules
unfoldable pub early? : ℕ → ℕ → Bool
early? zero j = false
early? (suc i) j = early? i j || this? i j

-- a rule that names one of the first n states of a list
unfoldable pub propagated? : Automaton → List ℕ → ℕ → ℕ → Bool
propagated? A states zero j = false
propagated? A states (suc x) j = propagated? A states x j || named? A (get_or states x 0) 0 j

-- the rules that name the first n of the states were tried, from the marks as they were
pub record Propagated (A : Automaton) (marks states : List ℕ) (n : ℕ) (next added : List ℕ) (m : ℕ) : Type 0 where
  pub gives : length marks ≡ max_states → ((x : ℕ) → x < n → get_or states x 0 < max_states) → Tried A marks (propagated? A states n) next added m

-- q is lower than a state, or there is no state
abbrev pub lower_than? : ℕ → Perhaps State → Bool
lower_than? q None = true
lower_than? q (Some s) = ltb q s.0

-- the lowest final state of the first n of `added`, where one of them is final
pub record LowestAdded (A : Automaton) (added : List ℕ) (n : ℕ) (best : Perhaps State) : Type 0 where
  pub nowhere : best ≡ None → (x : ℕ) → x < n → final? A (get_or added x 0) ≡ false
  pub here : (s : State) → best ≡ Some s → (final? A s.0 ≡ true) × ((x : ℕ) × (x < n) × (get_or added x 0 ≡ s.0))
  pub lowest : (s : State) → best ≡ Some s → (x : ℕ) → x < n → final? A (get_or added x 0) ≡ true → s.0 ≤ get_or added x 0

-- the tree o of a state after n rounds is by rule i, from trees that are marked
pub record MadeBy (A : Automaton) (n : ℕ) (o : Option Tree) (i : ℕ) : Type 0 where
  pub known : i < length A.rules
  pub under : List Tree
  pub marked : trees_in (rounds A n) (rule_at A i).children ≡ some under
  pub is : o ≡ some (node (rule_at A i).symbol 0 0 (forest under))

-- what a state's mark says of its tree
abbrev pub Made : Automaton → ℕ → Option Tree → ℕ → Type 0
Made A n o zero = o ≡ none
Made A n o (suc i) = MadeBy A n o i

-- The marks are those after n rounds.
pub record Marked (A : Automaton) (n : ℕ) (marks : List ℕ) : Type 0 where
  pub long : length marks ≡ max_states
  pub each : (q : ℕ) → q < length A.states → Made A n (get_or (rounds A n) q none) (get_or marks q 0)

-- The state that the witness is the tree of, the round that marks it, and the marks after that round.
pub record Chosen (A : Automaton) (q n : ℕ) (marks : List ℕ) : Type 0 where
  pub tree : Tree
  pub witness_is : witness A ≡ some tree
  pub state : q < length A.states
  pub tree_of : get_or (rounds A n) q none ≡ some tree
  pub height : levels tree ≡ n
  pub marks_are : Marked A n marks

-- What marking finds: nothing where there is no witness.
abbrev pub Marks : Automaton → Perhaps Marking → Type 0
Marks A None = witness A ≡ none
Marks A (Some m) = Chosen A m.state.0 m.round m.marks
