-- Joined memories from which a rule on a row was tried already. A slot has the row and 1, or 0, then the rule and the places left, and the memory. Assumes nothing.
use Rattle.std.specs.Prelude.{◌≡◌, ◌⊎◌, ℕ, suc, ◌+◌, ◌*◌, ◌<◌, ◌≤◌, get_or}
use mathlib.Core.List.{List, [], Memᴰ as In}
use Rattle.model.specs.Limits.{max_rows, max_rules}
use Rattle.model.specs.Annotation.{Memory, Annotation}
use Rattle.membership.specs.Cells.{memory_of, annotations_in}
use Rattle.membership.specs.Entries.{annotations_of}
use Rattle.judging.specs.Search.{tags_in, base_in, row_asked, rule_asked, found}
use Rattle.membership.specs.declared.table.Plan.{Plan}
use Rattle.judging.specs.declared.search.Want.{Want}
use Rattle.judging.specs.declared.tried.Slot.{Slot}

abbrev pub slots : ℕ
slots = 1024

-- past the end nothing was tried
abbrev pub untried : Slot
untried = record { row = 0; stamp = 0; memory = [] }

-- the stamp and the memory of slot s
unfoldable pub stamp_in : List Slot → ℕ → ℕ
stamp_in cells s = (get_or cells s untried).row * 8192 + (get_or cells s untried).stamp

unfoldable pub tried_in : ℕ → List Slot → ℕ → Memory
tried_in tags cells s = memory_of tags (get_or cells s untried).memory

-- the stamp of rule r on row i with so many places left: a later rule, and a later row, has a higher one
abbrev pub stamp_of : ℕ → ℕ → ℕ → ℕ
stamp_of i r left = suc i * 8192 + (r * 8 + left)

-- slot s has a stamp and a memory, whatever the number of tags
pub record SlotIs (stamp : ℕ) (m : ℕ → Memory) (cells : List Slot) (s : ℕ) : Type 0 where
  pub stamped : stamp_in cells s ≡ stamp
  pub holds : (tags : ℕ) → tags ≤ 16 → tried_in tags cells s ≡ m tags

-- some slot has the stamp and the memory
pub record Stands (stamp tags : ℕ) (m : Memory) (cells : List Slot) : Type 0 where
  pub slot : ℕ
  pub inside : slot < slots
  pub stamped : stamp_in cells slot ≡ stamp
  pub holds : tried_in tags cells slot ≡ m

-- each slot is as it was, or has the stamp and the memory
abbrev pub Kept : List Slot → ℕ → List ℕ → List Slot → Type 0
Kept before stamp memory after = (s : ℕ) → s < slots → SlotIs (stamp_in before s) (λ tags. tried_in tags before s) after s ⊎ SlotIs stamp (λ tags. memory_of tags memory) after s

-- no slot has the stamp of rule r on row i, or a later one
abbrev pub Fresh : ℕ → ℕ → List Slot → Type 0
Fresh i r cells = (s : ℕ) → s < slots → stamp_in cells s < stamp_of i r 0

-- with n annotations known, what is asked may be searched with these slots: none has a later stamp, and from the memory of one with the stamp of what is asked nothing new is found
pub record Tried (plan : Plan) (asked : Want) (own work : List ℕ) (n : ℕ) (cells : List Slot) : Type 0 where
  pub few_rows : row_asked asked < max_rows
  pub few_rules : rule_asked asked < max_rules
  pub latest : Fresh (row_asked asked) (suc (rule_asked asked)) cells
  pub known : (s left : ℕ) → s < slots → stamp_in cells s ≡ stamp_of (row_asked asked) (rule_asked asked) left → (a : Annotation) → In a (annotations_of (found (annotations_in (tags_in plan) work (base_in plan)) plan asked (memory_of (tags_in plan) own) left (tried_in (tags_in plan) cells s) [])) → In a (annotations_in (tags_in plan) work n)
