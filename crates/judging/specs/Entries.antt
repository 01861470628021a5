-- Annotations with the source of each: the rule and the child annotations by which it was found first. Assumes nothing.
use Rattle.std.specs.Prelude.{◌≡◌, Option, MatchOption, List, ℕ, ◌<◌, ◌≤◌, length}
use Rattle.membership.specs.Cells.{annotation_cells, cell_of}
use Rattle.judging.specs.Cells.{ShortIn}
use Rattle.judging.specs.Index.{Indexed}
use Rattle.membership.specs.Entries.{Entry, entry_in, entries_in}

-- the work space holds the list, of m entries, where it held n
pub record Held (n room tags : ℕ) (list : List Entry) (work slots : List ℕ) (m : ℕ) : Type 0 where
  pub more : n ≤ m
  pub count : m ≤ room
  pub held : entries_in tags work m ≡ list
  pub indexed : Indexed tags room work slots m

-- What comes back where n went in: how many entries the work space holds, which are the list, or none where the list does not fit the room.
abbrev pub Grown : ℕ → ℕ → ℕ → List Entry → List ℕ → List ℕ → Option ℕ → Type 0
Grown n room tags list work slots r = MatchOption r (room < length list) (Held n room tags list work slots)

-- entry n is written, nothing past the tags in its memory, and every other entry is as it was
pub record Stored (tags : ℕ) (before : List ℕ) (n : ℕ) (e : Entry) (after : List ℕ) : Type 0 where
  pub entry : entry_in tags after n ≡ e
  pub short : ShortIn tags after n
  pub others : (j k : ℕ) → k < annotation_cells → (j ≡ n → ⊥) → cell_of after j k ≡ cell_of before j k
