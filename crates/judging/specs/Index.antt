-- An index that finds an equal annotation: each slot's chain goes from its newest annotation to its oldest. Assumes nothing.
use Rattle.std.specs.Prelude.{◌≡◌, List, ℕ, suc, ◌<◌, get_or}
use Rattle.membership.specs.Cells.{cell_of, annotation_in}
use Rattle.judging.specs.Cells.{ShortIn}
use Rattle.membership.specs.Index.{slot_of, next_in, link_of, OnChain}

-- slot s begins with the annotation in its cell, and annotation j is followed by that in cell 25 of the work space: a number and 1, or 0 for none
abbrev pub first_in : List ℕ → ℕ → ℕ
first_in slots s = get_or slots s 0

-- each of the first n annotations stands on the chain of its slot, and nothing stands past the tags in its memory
pub record Indexed (tags room : ℕ) (work slots : List ℕ) (n : ℕ) : Type 0 where
  pub chains : (j : ℕ) → j < n → OnChain work n j (first_in slots (slot_of room (annotation_in tags work j)))
  pub short : (j : ℕ) → j < n → ShortIn tags work j

-- annotation n is put before the first of slot s
pub record Linked (before slots : List ℕ) (s n : ℕ) (after slots' : List ℕ) : Type 0 where
  pub cells : (j k : ℕ) → k < 24 → cell_of after j k ≡ cell_of before j k
  pub next : next_in after n ≡ link_of n (first_in slots s)
  pub nexts : (j : ℕ) → (j ≡ n → ⊥) → next_in after j ≡ next_in before j
  pub first : first_in slots' s ≡ suc n
  pub firsts : (t : ℕ) → (t ≡ s → ⊥) → first_in slots' t ≡ first_in slots t
