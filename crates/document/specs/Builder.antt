-- The table builder: a row is found by the index, or added where there is room (document 01, section "Documents"). Assumes nothing.
use Rattle.std.specs.Prelude.{◌≡◌, List, Bool, true, false, ◌&&◌, cond, ℕ, ◌+◌, ◌*◌, ◌<◌, ◌≤◌, ltb, leb, length, set, take}
use Rattle.std.proofs.Math.Option.{none}
use Rattle.model.specs.Limits.{max_rows}
use Rattle.model.specs.Space.{put_at}
use Rattle.model.specs.Table.{Row}
use Rattle.model.specs.Build.{eq_row, find_row, add_row}
use Rattle.document.specs.declared.index.Probed.{Probed}
use Rattle.document.specs.declared.index.Probed.TheVariants.{Found, Free, Crowded}
use Rattle.document.specs.declared.builder.Placed.{Placed}
use Rattle.document.specs.declared.builder.Placed.TheVariants.{Known, Added, Full}
use Rattle.document.specs.Rows.{row_cells, row_in, rows_below, encode_row, encode_rows}
use Rattle.document.specs.Fields.{as_row}
use Rattle.document.specs.Index.{start_slot, probe, Indexed}

-- The state of a builder: n rows in the cells, no two equal, and slots that index them.
pub record Built (cells slots : List ℕ) (n : ℕ) : Type 0 where
  pub few : n ≤ max_rows
  pub distinct : (i j : ℕ) → i < n → j < n → row_in cells i ≡ row_in cells j → i ≡ j
  pub indexed : Indexed slots n (λ i. start_slot (row_in cells i))

-- a row more is within the limit, within a table's, and within the cells
unfoldable pub room_for? : List ℕ → ℕ → ℕ → Bool
room_for? cells n limit = ltb n limit && ltb n max_rows && leb (n * row_cells + row_cells) (length cells)

-- an answer, and what lies in the cells and the slots afterwards
pub record Placing : Type 0 where
  pub answer : Placed
  pub cells : List ℕ
  pub slots : List ℕ

-- what is done about what the probe found
abbrev pub place_at : List ℕ → List ℕ → ℕ → ℕ → Row → Probed → Placing
place_at cells slots n limit r (Found i) = record { answer = Known i; cells = cells; slots = slots }
place_at cells slots n limit r (Free t) =
    cond (room_for? cells n limit)
    (record { answer = Added (as_row n); cells = put_at cells (n * row_cells) (encode_row r); slots = set slots t (n + 1) })
    (record { answer = Full; cells = cells; slots = slots })
place_at cells slots n limit r Crowded = record { answer = Full; cells = cells; slots = slots }

-- what `find_or_add` does
unfoldable pub find_or_add : List ℕ → List ℕ → ℕ → ℕ → Row → Placing
find_or_add cells slots n limit r = place_at cells slots n limit r (probe slots (λ i. eq_row r (row_in cells i)) (start_slot r))

-- an answer, cells and slots are what p says
pub record Did (p : Placing) (a : Placed) (cs ss : List ℕ) : Type 0 where
  pub answer : a ≡ p.answer
  pub cells : cs ≡ p.cells
  pub slots : ss ≡ p.slots

-- What p means to a builder with n rows: the row that a plain scan finds, a row more, or none of it where there is no room.
pub record Grows (cells slots : List ℕ) (n limit : ℕ) (r : Row) (p : Placing) : Type 0 where
  pub known : (i : ℕ) → p.answer ≡ Known (as_row i) → (add_row (rows_below cells n) r ≡ (rows_below cells n, i)) × (p.cells ≡ cells) × (p.slots ≡ slots)
  pub added : (i : ℕ) → p.answer ≡ Added (as_row i) → (i ≡ n) × (room_for? cells n limit ≡ true) × (add_row (rows_below cells n) r ≡ (rows_below p.cells (n + 1), n)) × Built p.cells p.slots (n + 1)
  pub full : p.answer ≡ Full → (find_row r (rows_below cells n) ≡ none) × (room_for? cells n limit ≡ false) × (p.cells ≡ cells) × (p.slots ≡ slots)
  pub earlier : take (n * row_cells) p.cells ≡ take (n * row_cells) cells
  pub size : length p.cells ≡ length cells

-- What a reader builds on: so many rows in the cells, which the slots index, and room for as many as the limit.
pub record Ready (cells slots : List ℕ) (rows limit : ℕ) : Type 0 where
  pub built : Built cells slots rows
  pub encoded : take (rows * row_cells) cells ≡ encode_rows (rows_below cells rows)
  pub few : limit ≤ max_rows
  pub room : limit * row_cells ≤ length cells
