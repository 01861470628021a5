-- Members and elements whose rest is still to come, one at each level: its symbol, the row of its key's text and its value's row. Assumes nothing.
use Rattle.std.specs.Prelude.{◌≡◌, List, [], ◌∷◌, ◌++◌, ℕ, zero, suc, ◌+◌, ◌<◌, ◌≤◌, length, get_or}
use Rattle.model.specs.Limits.{unused}
use Rattle.document.specs.Fields.{as_row}
use Rattle.jsonrows.specs.declared.tables.Item.{Item}
use Rattle.jsonrows.specs.Signature.{other, text_leaf}
use Rattle.jsonrows.specs.Grammar.{Outcome, joined}
use Rattle.jsonrows.specs.State.{key_rows}

-- what stands at a level before the first item
abbrev pub no_item : Item
no_item = record { symbol = 0; key = as_row 0; value = as_row 0 }

abbrev pub frame_at : List Item → ℕ → Item
frame_at fs l = get_or fs l no_item

abbrev pub frame_symbol : List Item → ℕ → ℕ
frame_symbol fs l = (frame_at fs l).symbol

abbrev pub frame_key : List Item → ℕ → ℕ
frame_key fs l = (frame_at fs l).key.0

abbrev pub frame_value : List Item → ℕ → ℕ
frame_value fs l = (frame_at fs l).value.0

-- what becomes of n items from level l upwards, the rest of the first being read
abbrev pub joins : ℕ → List Item → ℕ → ℕ → Outcome → Outcome
joins limit fs l zero o = o
joins limit fs l (suc n) o = joins limit fs (suc l) n (joined limit (frame_symbol fs l) (key_rows (frame_symbol fs l) (frame_key fs l) ++ frame_value fs l ∷ []) o)

-- A frame of an item: no text's leaf, its value's row is one of so many, and so is its key's where it has one.
pub record Frame (fs : List Item) (used l : ℕ) : Type 0 where
  pub plain : frame_symbol fs l ≡ text_leaf → ⊥
  pub key : frame_key fs l < unused
  pub own : frame_symbol fs l ≡ other → frame_key fs l < used
  pub value : frame_value fs l < used

-- There are frames from level lo up to level hi.
pub record Framed (fs : List Item) (used lo hi : ℕ) : Type 0 where
  pub order : lo ≤ hi
  pub room : hi ≤ length fs
  pub each : (l : ℕ) → lo ≤ l → l < hi → Frame fs used l

-- From level i on, the frames are as they were.
pub record Same (i : ℕ) (before after : List Item) : Type 0 where
  pub at : (j : ℕ) → i ≤ j → frame_at after j ≡ frame_at before j

-- The frame at level l is these, and those above it are as they were.
pub record FrameSet (before after : List Item) (l symbol key value : ℕ) : Type 0 where
  pub symbol_is : frame_symbol after l ≡ symbol
  pub key_is : frame_key after l ≡ key
  pub value_is : frame_value after l ≡ value
  pub above : Same (l + 1) before after
