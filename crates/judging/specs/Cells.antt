-- Annotations in the work space, 32 cells each: 0 row, 1 state, 2 to 17 memory, 18 a mark (0 today), 19 rule, 20 to 23 child annotations, 24 free, 25 the index's, 26 and 27 the run's, 28 to 31 free (document 01, section "Runs"). Assumes nothing.
use Rattle.std.specs.Prelude.{◌≡◌, List, Bool, ℕ, ◌+◌, ◌<◌, ◌≤◌, get_or}
use Rattle.model.specs.Lists.{eq_list, tab}
use Rattle.model.specs.Annotation.{Memory, agree?}
use Rattle.membership.specs.Cells.{memory_of, cell_of}

-- the memory that names no row
abbrev pub no_memory : ℕ → Memory
no_memory tags = tab tags (λ k. 0)

-- nothing stands in the places past the tags
abbrev pub Short : ℕ → List ℕ → Type 0
Short tags cells = (k : ℕ) → tags ≤ k → k < 16 → get_or cells k 0 ≡ 0

-- whether two memories in cells agree, and whether they are the same, whatever the number of tags past which nothing stands
abbrev pub AgreeIn : List ℕ → List ℕ → Bool → Type 0
AgreeIn a b r = (tags : ℕ) → tags ≤ 16 → Short tags a → Short tags b → r ≡ agree? (memory_of tags a) (memory_of tags b)

abbrev pub SameIn : List ℕ → List ℕ → Bool → Type 0
SameIn a b r = (tags : ℕ) → tags ≤ 16 → Short tags a → Short tags b → r ≡ eq_list (memory_of tags a) (memory_of tags b)

-- nothing stands past the tags in annotation j's memory
abbrev pub ShortIn : ℕ → List ℕ → ℕ → Type 0
ShortIn tags work j = (k : ℕ) → tags ≤ k → k < 16 → cell_of work j (2 + k) ≡ 0
