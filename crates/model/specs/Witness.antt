-- The witness: states are marked in rounds, each with its tree (document 01, section "Joining, demanding both, and the sample", calls it the sample). Assumes nothing.
use Rattle.std.specs.Prelude.{◌≡◌, List, [], ◌∷◌, Bool, true, false, ◌&&◌, not, ℕ, zero, suc, ◌<◌, T, eqb, length, get_or}
use Rattle.std.proofs.Math.Option.{Option, none, some}
use Rattle.model.specs.Lists.{tab, all_below, or_else}
use Rattle.model.specs.Tree.{Tree, node, forest, and_then}
use Rattle.model.specs.Automaton.{Rule, Automaton, final?, carries?}

abbrev pub when? : {A : Type 0} → Bool → Option A → Option A
when? true o = o
when? false o = none

-- The marks after a round: for each state its tree, once it is marked.
abbrev pub Marks : Type 0
Marks = List (Option Tree)

-- the trees of the states, if all of them are marked
abbrev pub trees_in : Marks → List ℕ → Option (List Tree)
trees_in M [] = some []
trees_in M (q ∷ qs) = and_then (get_or M q none) (λ t. and_then (trees_in M qs) (λ ts. some (t ∷ ts)))

-- a symbol over trees, with a bare scalar
abbrev pub topped : Rule → List Tree → Option Tree
topped r ts = some (node r.symbol 0 0 (forest ts))

abbrev pub by_rule : Marks → ℕ → Rule → Option Tree
by_rule M q r = when? (eqb r.target q) (and_then (trees_in M r.children) (topped r))

-- the tree by the first rule in stored order that leads to q from marked states
abbrev pub by_first : Marks → ℕ → List Rule → Option Tree
by_first M q [] = none
by_first M q (r ∷ rs) = or_else (by_rule M q r) (by_first M q rs)

-- A state is marked if it is not yet marked and some rule leads to it from states marked in earlier rounds.
abbrev pub next_round : Automaton → Marks → Marks
next_round A M = tab (length A.states) (λ q. or_else (get_or M q none) (by_first M q A.rules))

abbrev pub no_marks : Automaton → Marks
no_marks A = tab (length A.states) (λ q. none)

-- the marks after n rounds
abbrev pub rounds : Automaton → ℕ → Marks
rounds A zero = no_marks A
rounds A (suc n) = next_round A (rounds A n)

-- the tree of the lowest final state that is marked, from state q on
abbrev pub first_final : Automaton → Marks → ℕ → Option Tree
first_final A [] q = none
first_final A (o ∷ M) q = or_else (when? (final? A q) o) (first_final A M (suc q))

abbrev pub witness_in : Automaton → ℕ → Marks → Option Tree
witness_in A zero M = first_final A M 0
witness_in A (suc n) M = or_else (first_final A M 0) (witness_in A n (next_round A M))

-- The tree of the final state marked first, the lowest number on a tie; `none` is dead. As many rounds as there are states are enough.
abbrev pub witness : Automaton → Option Tree
witness A = witness_in A (length A.states) (no_marks A)

-- No tag is carried by two states.
abbrev pub Apart : Automaton → Type 0
Apart A = (k : ℕ) → k < A.tags → (q q' : ℕ) → T (carries? A q k) → T (carries? A q' k) → q ≡ q'

-- the same as a test, at each two states and each tag
abbrev pub apart? : Automaton → Bool
apart? A = all_below (length A.states) (λ q. all_below q (λ p. all_below A.tags (λ k. not (carries? A p k && carries? A q k))))
