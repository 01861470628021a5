-- The run that is read off the annotations reached from an accepting one: cell 26 is 1 where an annotation is reached, cell 27 holds its step's number. Assumes nothing.
use Rattle.std.specs.Prelude.{◌≡◌, ◌⊎◌, Option, MatchOption, List, [], ◌∷◌, ◌++◌, Bool, true, false, ◌&&◌, cond, ℕ, zero, suc, ◌+◌, ◌*◌, ◌<◌, ◌≤◌, T, eqb, ltb, set}
use Rattle.model.specs.Limits.{max_children, unused}
use Rattle.model.specs.Lists.{only, tab}
use Rattle.model.specs.Automaton.{Automaton, final?}
use Rattle.membership.specs.Cells.{annotation_cells, cell_of, rule_in, child_in}

unfoldable pub reached? : List ℕ → ℕ → Bool
reached? work j = eqb (cell_of work j 26) 1

-- how many numbers below n pass a test
unfoldable pub rank_of : (ℕ → Bool) → ℕ → ℕ
rank_of f zero = 0
rank_of f (suc n) = rank_of f n + cond (f n) 1 0

-- a cell of each annotation may differ, and no other
abbrev pub KeptBut : ℕ → List ℕ → List ℕ → Type 0
KeptBut cell before after = (j k : ℕ) → k < annotation_cells → (k ≡ cell → ⊥) → cell_of after j k ≡ cell_of before j k

-- annotation j becomes reached, and nothing else changes
pub record ReachedMore (before : List ℕ) (j : ℕ) (after : List ℕ) : Type 0 where
  pub kept : KeptBut 26 before after
  pub this : reached? after j ≡ true
  pub others : (x : ℕ) → (x ≡ j → ⊥) → reached? after x ≡ reached? before x

-- none of the first n annotations is reached
pub record Unmarked (before : List ℕ) (n : ℕ) (after : List ℕ) : Type 0 where
  pub kept : KeptBut 26 before after
  pub none : (j : ℕ) → j < n → reached? after j ≡ false

-- annotation x is a child annotation of j, in one of the first n places
pub record ChildBelow (work : List ℕ) (n j x : ℕ) : Type 0 where
  pub place : ℕ
  pub is_place : place < n
  pub holds : child_in work j place ≡ x
  pub lower : x < j

abbrev pub ChildOf : List ℕ → ℕ → ℕ → Type 0
ChildOf work j x = ChildBelow work max_children j x

-- the child annotations of j are reached too, and no others that were not
pub record ChildrenReached (before : List ℕ) (j : ℕ) (after : List ℕ) : Type 0 where
  pub kept : KeptBut 26 before after
  pub stays : (x : ℕ) → T (reached? before x) → T (reached? after x)
  pub reaches : (x : ℕ) → ChildOf before j x → T (reached? after x)
  pub only : (x : ℕ) → T (reached? after x) → T (reached? before x) ⊎ ChildOf before j x

-- root is reached, what is reached has its child annotations reached, and all but the root is a child annotation of a later one
pub record Reached (work : List ℕ) (root : ℕ) : Type 0 where
  pub from : T (reached? work root)
  pub closed : (j x : ℕ) → j ≤ root → T (reached? work j) → ChildOf work j x → T (reached? work x)
  pub used : (x : ℕ) → x < root → T (reached? work x) → (j : ℕ) × (j ≤ root) × T (reached? work j) × ChildOf work j x

-- the marks are set, and nothing else changed
pub record Traced (before : List ℕ) (root : ℕ) (after : List ℕ) : Type 0 where
  pub kept : KeptBut 26 before after
  pub reached : Reached after root

-- what step place p of annotation j holds: the number of its child's step
abbrev pub step_place : List ℕ → (ℕ → Bool) → ℕ → ℕ → ℕ
step_place work f j p = cond (ltb (child_in work j p) j) (rank_of f (child_in work j p)) unused

-- the cells of the steps of the annotations below n that pass a test, in ascending order
unfoldable pub steps_written : List ℕ → (ℕ → Bool) → ℕ → List ℕ
steps_written work f zero = []
steps_written work f (suc j) = steps_written work f j ++ only (f j) (rule_in work j ∷ cell_of work j 0 ∷ tab max_children (step_place work f j))

-- what the places of annotation j hold while its step is written: the number in the child's cell
abbrev pub number_at : List ℕ → ℕ → ℕ → ℕ
number_at work j p = cond (ltb (child_in work j p) j) (cell_of work (child_in work j p) 27) unused

-- the cells of annotation j's step then, and the work space once it has the number s
abbrev pub step_of : List ℕ → ℕ → List ℕ
step_of work j = rule_in work j ∷ cell_of work j 0 ∷ tab max_children (number_at work j)

abbrev pub with_number : List ℕ → ℕ → ℕ → List ℕ
with_number work j s = set work (j * annotation_cells + 27) s

-- an annotation of the given row in a final state
abbrev pub accepting_in : Automaton → ℕ → List ℕ → ℕ → Bool
accepting_in A last work j = eqb (cell_of work j 0) last && final? A (cell_of work j 1)

-- r is the first number below n that passes a test, or none where none does
abbrev pub FirstOf : (ℕ → Bool) → ℕ → Option ℕ → Type 0
FirstOf f n r = MatchOption r ((j : ℕ) → j < n → f j ≡ false) (λ k. (k < n) × (f k ≡ true) × ((j : ℕ) → j < k → f j ≡ false))
