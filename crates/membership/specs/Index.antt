-- An index in spare cells that finds an equal annotation: each slot's chain goes from its newest annotation to its oldest. Assumes nothing.
use Rattle.std.specs.Prelude.{◌≡◌, List, cond, ℕ, zero, suc, ◌+◌, ◌*◌, ◌%◌, ◌<◌, ◌≤◌, leb, length, get_or}
use Rattle.model.specs.Annotation.{Annotation}
use Rattle.membership.specs.Cells.{cell_of, annotation_in}

-- a number more goes into a hash below 65,536
abbrev pub mixed : ℕ → ℕ → ℕ
mixed h x = (h * 40503 + x) % 65536

-- f 0, .., f (n - 1) go into a hash
unfoldable pub mixed_to : (ℕ → ℕ) → ℕ → ℕ → ℕ
mixed_to f zero h = h
mixed_to f (suc n) h = mixed (mixed_to f n h) (f n)

-- an annotation's slot
unfoldable pub slot_of : ℕ → Annotation → ℕ
slot_of room a = mixed_to (λ k. get_or a.memory k 0) (length a.memory) (mixed a.row a.state) % room

-- slot s begins with the annotation in cell 24, and annotation j is followed by that in cell 25: a number and 1, or 0 for none
unfoldable pub first_in : List ℕ → ℕ → ℕ
first_in work s = cell_of work s 24

unfoldable pub next_in : List ℕ → ℕ → ℕ
next_in work j = cell_of work j 25

-- what is read of a link: junk counts as none
abbrev pub link_of : ℕ → ℕ → ℕ
link_of most x = cond (leb x most) x 0

-- annotation j, one of the first n, stands on the chain from i
pub data OnChain (work : List ℕ) (n j : ℕ) : ℕ → Type 0 where
  newest : j < n → OnChain work n j (suc j)
  older : {k : ℕ} → k < n → next_in work k ≤ k → OnChain work n j (next_in work k) → OnChain work n j (suc k)

-- each of the first n annotations stands on the chain of its slot
unfoldable pub Indexed : ℕ → ℕ → List ℕ → ℕ → Type 0
Indexed tags room work n = (j : ℕ) → j < n → OnChain work n j (first_in work (slot_of room (annotation_in tags work j)))

-- annotation n is put before the first of slot s
pub record Linked (before : List ℕ) (s n : ℕ) (after : List ℕ) : Type 0 where
  pub cells : (j k : ℕ) → k < 24 → cell_of after j k ≡ cell_of before j k
  pub next : next_in after n ≡ link_of n (first_in before s)
  pub nexts : (j : ℕ) → (j ≡ n → ⊥) → next_in after j ≡ next_in before j
  pub first : first_in after s ≡ suc n
  pub firsts : (t : ℕ) → (t ≡ s → ⊥) → first_in after t ≡ first_in before t
