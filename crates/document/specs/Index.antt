-- The index: open addressing over slots that hold a row's number and 1, or 0 where they are empty (document 01, section "Documents"). Assumes nothing.
use Rattle.std.specs.Prelude.{◌≡◌, List, [], ◌∷◌, Bool, cond, ℕ, zero, suc, ◌+◌, ◌%◌, ◌<◌, ◌≤◌, length, get_or}
use Rattle.model.specs.Table.{Row}
use Rattle.document.specs.declared.index.Probed.{Probed}
use Rattle.document.specs.declared.index.Probed.TheVariants.{Found, Free, Crowded}
use Rattle.document.specs.Rows.{encode_row}
use Rattle.document.specs.Hash.{row_hash}
use Rattle.document.specs.Fields.{as_row}

abbrev pub slot_count : ℕ
slot_count = 2048

-- the slot d steps after s, around the end
abbrev pub slot_after : ℕ → ℕ → ℕ
slot_after s d = (s + d) % slot_count

-- the slot where a row is looked for first
unfoldable pub start_slot : Row → ℕ
start_slot r = row_hash (encode_row r) % slot_count

-- what a slot's number says: empty, a row that passes the test, or a row that does not
abbrev pub at_slot : (ℕ → Bool) → ℕ → Probed → Probed → Probed
at_slot same? zero free next = free
at_slot same? (suc i) free next = cond (same? i) (Found (as_row i)) next

-- the probe from d steps after slot s on: the first empty slot ends it, or a row that passes the test
unfoldable pub probe_from : List ℕ → (ℕ → Bool) → ℕ → ℕ → ℕ → Probed
probe_from slots same? s d zero = Crowded
probe_from slots same? s d (suc left) = at_slot same? (get_or slots (slot_after s d) 0) (Free (slot_after s d)) (probe_from slots same? s (suc d) left)

-- each slot is tried once
abbrev pub probe : List ℕ → (ℕ → Bool) → ℕ → Probed
probe slots same? s = probe_from slots same? s 0 slot_count

-- how many slots are not empty
abbrev pub filled : List ℕ → ℕ
filled [] = 0
filled (zero ∷ slots) = filled slots
filled (suc i ∷ slots) = suc (filled slots)

-- the slots before the d-th from s are not empty
abbrev pub NoneEmpty : List ℕ → ℕ → ℕ → Type 0
NoneEmpty slots s d = (e : ℕ) → e < d → get_or slots (slot_after s e) 0 ≡ 0 → ⊥

-- row i is found from slot s on, before any empty slot
pub record Reached (slots : List ℕ) (i s : ℕ) : Type 0 where
  pub steps : ℕ
  pub few : steps < slot_count
  pub there : get_or slots (slot_after s steps) 0 ≡ suc i
  pub before : NoneEmpty slots s steps

-- The slots are an index of the rows below n, row i starting at slot `start i`.
pub record Indexed (slots : List ℕ) (n : ℕ) (start : ℕ → ℕ) : Type 0 where
  pub size : length slots ≡ slot_count
  pub held : (t : ℕ) → get_or slots t 0 ≤ n
  pub count : filled slots ≡ n
  pub reached : (i : ℕ) → i < n → Reached slots i (start i)
