-- Annotations with the source of each: the rule and the child annotations by which it was found first. Assumes nothing.
use Rattle.std.specs.Prelude.{◌≡◌, Option, MatchOption, List, [], ◌∷◌, ◌++◌, map, cond, ℕ, ◌<◌, ◌≤◌, length}
use Rattle.model.specs.Limits.{max_children}
use Rattle.model.specs.Lists.{any, tab}
use Rattle.model.specs.Annotation.{Annotation, eq_annotation}
use Rattle.membership.specs.Cells.{annotation_cells, cell_of, annotation_in, rule_in, child_in}
use Rattle.membership.specs.Index.{Indexed}

-- An annotation, the number of its rule, and its child annotations' numbers in four places.
pub record Entry : Type 0 where
  pub annotation : Annotation
  pub rule : ℕ
  pub children : List ℕ

abbrev pub annotations_of : List Entry → List Annotation
annotations_of known = map (λ e. e.annotation) known

-- entry j of the work space, and the first n
abbrev pub entry_in : ℕ → List ℕ → ℕ → Entry
entry_in tags work j = record { annotation = annotation_in tags work j; rule = rule_in work j; children = tab max_children (child_in work j) }

unfoldable pub entries_in : ℕ → List ℕ → ℕ → List Entry
entries_in tags work n = tab n (entry_in tags work)

-- new annotations are appended, each once
unfoldable pub add_entry : List Entry → Entry → List Entry
add_entry known e = cond (any (eq_annotation e.annotation) (annotations_of known)) known (known ++ e ∷ [])

unfoldable pub add_entries : List Entry → List Entry → List Entry
add_entries known [] = known
add_entries known (e ∷ more) = add_entries (add_entry known e) more

-- the work space holds the list, of m entries, where it held n
pub record Held (n room tags : ℕ) (list : List Entry) (work : List ℕ) (m : ℕ) : Type 0 where
  pub more : n ≤ m
  pub count : m ≤ room
  pub held : entries_in tags work m ≡ list
  pub indexed : Indexed tags room work m

-- What comes back where n went in: how many entries the work space holds, which are the list, or none where the list does not fit the room.
abbrev pub Grown : ℕ → ℕ → ℕ → List Entry → List ℕ → Option ℕ → Type 0
Grown n room tags list work r = MatchOption r (room < length list) (Held n room tags list work)

-- entry n is written, and every other cell is as it was
pub record Stored (tags : ℕ) (before : List ℕ) (n : ℕ) (e : Entry) (after : List ℕ) : Type 0 where
  pub entry : entry_in tags after n ≡ e
  pub others : (j k : ℕ) → k < annotation_cells → (j ≡ n → ⊥) → cell_of after j k ≡ cell_of before j k
  pub spare : (k : ℕ) → 24 ≤ k → k < annotation_cells → cell_of after n k ≡ cell_of before n k
