-- What the annotating of a table leaves in the work space. Assumes nothing.
use Rattle.std.specs.Prelude.{◌≡◌, Option, MatchOption, List, ℕ, ◌<◌, ◌≤◌, length}
use Rattle.model.specs.Automaton.{Automaton}
use Rattle.model.specs.Table.{Row}
use Rattle.model.specs.Annotation.{annotations}
use Rattle.membership.specs.Cells.{annotations_in}
use Rattle.membership.specs.Sources.{SourcedIn}

-- the first n annotations in the work space, within the room, are the table's, in the model's order, each with its source
pub record AllIn (A : Automaton) (rows : List Row) (room : ℕ) (work : List ℕ) (n : ℕ) : Type 0 where
  pub count : n ≤ room
  pub held : annotations_in A.tags work n ≡ annotations A rows
  pub sourced : SourcedIn A rows A.tags work n

-- The number of the table's annotations, which the work space holds, or none where they do not fit the room.
abbrev pub Annotated : Automaton → List Row → ℕ → List ℕ → Option ℕ → Type 0
Annotated A rows room work r = MatchOption r (room < length (annotations A rows)) (AllIn A rows room work)
