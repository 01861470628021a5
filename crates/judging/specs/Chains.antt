-- Annotations of a window by class, a class being the state's remainder by 256: for each place a table of heads, the first of each class, and for each annotation a link, the next of its class. Assumes nothing.
use Rattle.std.specs.Prelude.{◌≡◌, ◌⊎◌, List, ℕ, suc, ◌+◌, ◌*◌, ◌%◌, ◌<◌, ◌≤◌, get_or}
use Rattle.membership.specs.Cells.{cell_of}

abbrev pub classes : ℕ
classes = 256

-- the class of annotation j
unfoldable pub class_in : List ℕ → ℕ → ℕ
class_in work j = cell_of work j 1 % classes

-- r is the first number from low up to high with class c, or high where there is none
pub record FirstWith (f : ℕ → ℕ) (c low high r : ℕ) : Type 0 where
  pub from : low ≤ r
  pub to : r ≤ high
  pub is : r < high → f r ≡ c
  pub none : (k : ℕ) → low ≤ k → k < r → f k ≡ c → ⊥

-- h is that number, unless there is none: then h may be anything
abbrev pub HeadOf : (ℕ → ℕ) → ℕ → ℕ → ℕ → ℕ → Type 0
HeadOf f c low high h = (k : ℕ) → low ≤ k → k < high → f k ≡ c → FirstWith f c low high h

-- place p has the first number of the window from low up to high with the class of each
unfoldable pub Heads : (ℕ → ℕ) → ℕ → ℕ → ℕ → List ℕ → Type 0
Heads f p low high heads = (j : ℕ) → low ≤ j → j < high → FirstWith f (f j) low high (get_or heads (p * classes + f j) 0)

-- each number of the window has the next one with its class
unfoldable pub Links : (ℕ → ℕ) → ℕ → ℕ → List ℕ → Type 0
Links f low high links = (j : ℕ) → low ≤ j → j < high → FirstWith f (f j) (suc j) high (get_or links j 0)

-- A window of at most four numbers is scanned, and needs neither.
abbrev pub Many : ℕ → ℕ → Type 0
Many low high = low + 4 < high

abbrev pub Opened : (ℕ → ℕ) → ℕ → ℕ → ℕ → List ℕ → Type 0
Opened f p low high heads = Many low high → Heads f p low high heads

abbrev pub Chained : (ℕ → ℕ) → ℕ → ℕ → List ℕ → Type 0
Chained f low high links = Many low high → Links f low high links

-- two windows have no number in common, or all
abbrev pub AsideOrSame : ℕ → ℕ → ℕ → ℕ → Type 0
AsideOrSame low high low' high' = (high' ≤ low) ⊎ ((high ≤ low') ⊎ ((low ≡ low') × (high ≡ high')))

-- the cells of the other places, and the links outside the window, are as they were
pub record Apart (p low high : ℕ) (heads links heads' links' : List ℕ) : Type 0 where
  pub places : (q c : ℕ) → c < classes → (q ≡ p → ⊥) → get_or heads' (q * classes + c) 0 ≡ get_or heads (q * classes + c) 0
  pub below : (j : ℕ) → j < low → get_or links' j 0 ≡ get_or links j 0
  pub above : (j : ℕ) → high ≤ j → get_or links' j 0 ≡ get_or links j 0

-- the window is opened at place p
pub record Opening (f : ℕ → ℕ) (p low high : ℕ) (heads links heads' links' : List ℕ) : Type 0 where
  pub opened : Opened f p low high heads'
  pub chained : Chained f low high links'
  pub apart : Apart p low high heads links heads' links'
