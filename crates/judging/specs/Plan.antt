-- What the functions over rows and rules say of each other: a plan for a row, what a rule asks on it, and what is known before a row. Assumes nothing.
use Rattle.std.specs.Prelude.{◌≡◌, List, [], cond, ℕ, suc, ◌+◌, ◌*◌, ◌<◌, ◌≤◌, length, get_or}
use Rattle.model.specs.Limits.{max_children, max_steps}
use Rattle.model.specs.Lists.{tab}
use Rattle.model.specs.Order.{place}
use Rattle.model.specs.Automaton.{Automaton, state_at, bit?}
use Rattle.model.specs.Annotation.{Memory, Annotation}
use Rattle.model.specs.Table.{Row}
use Rattle.model.specs.Written.{rule_at}
use Rattle.document.specs.Check.{place_in}
use Rattle.membership.specs.Cells.{annotation_cells}
use Rattle.judging.specs.Cells.{no_memory}
use Rattle.judging.specs.Index.{Indexed}
use Rattle.membership.specs.Entries.{Entry, entries_in}
use Rattle.judging.specs.Search.{tags_in, arity_in, base_in, room_in, low_in, high_in, found}
use Rattle.membership.specs.Listing.{entries_below}
use Rattle.membership.specs.declared.table.Plan.{Plan}
use Rattle.judging.specs.declared.search.Want.{Want}
use Rattle.judging.specs.declared.table.ReadRule.{ReadRule}

-- the plan of row i, with the windows of its first n children: each starts with the annotations of the child's row, and ends before those of the row after it
pub record Planned (cells starts : List ℕ) (i tags arity base room n : ℕ) (plan : Plan) : Type 0 where
  pub tags_are : tags_in plan ≡ tags
  pub arity_is : arity_in plan ≡ arity
  pub base_is : base_in plan ≡ base
  pub room_is : room_in plan ≡ room
  pub low : (p : ℕ) → p < n → low_in plan p ≡ get_or starts (place_in cells i p) 0
  pub high : (p : ℕ) → p < n → high_in plan p ≡ get_or starts (place_in cells i p + 1) 0

-- what is read of rule r once for all rows: its target, the target's tags, the tags that it forgets, and its child places
abbrev pub read_of : Automaton → ℕ → ReadRule
read_of A r = record { target = record { 0 = (rule_at A r).target }; tags = (state_at A (rule_at A r).target).mask; forget = (rule_at A r).forget; states = tab max_children (λ p. record { 0 = place (rule_at A r) p }) }

-- past the end no rule is read
abbrev pub unread : ReadRule
unread = record { target = record { 0 = 0 }; tags = 0; forget = 0; states = [] }

-- the first n rules are read
abbrev pub RulesRead : Automaton → ℕ → List ReadRule → Type 0
RulesRead A n rules = (r : ℕ) → r < n → get_or rules r unread ≡ read_of A r

-- what rule r asks on row i: by the automaton, and by what is read
abbrev pub asked_by : Automaton → ℕ → ℕ → Want
asked_by A i r = record { row = record { 0 = i }; rule = r; target = record { 0 = (rule_at A r).target }; forget = (rule_at A r).forget; states = tab max_children (λ p. record { 0 = place (rule_at A r) p }) }

abbrev pub asked_in : List ReadRule → ℕ → ℕ → Want
asked_in rules i r = record { row = record { 0 = i }; rule = r; target = (get_or rules r unread).target; forget = (get_or rules r unread).forget; states = (get_or rules r unread).states }

-- the memory of the tags of rule r's target, each going to row i, by what is read
abbrev pub own_in : List ReadRule → ℕ → ℕ → ℕ → Memory
own_in rules tags i r = tab tags (λ k. cond (bit? (get_or rules r unread).tags k) (suc i) 0)

-- what rule r makes on row i by a plan: every choice of annotations for the children, from no memory on
abbrev pub rule_found : List Annotation → Plan → List ReadRule → ℕ → ℕ → List ℕ → List Entry
rule_found known plan rules i r children = found known plan (asked_in rules i r) (own_in rules (tags_in plan) i r) (arity_in plan) (no_memory (tags_in plan)) children

-- the work space before row i: its n annotations are those of the rows below
pub record Before (A : Automaton) (rows : List Row) (i room tags : ℕ) (work slots : List ℕ) (n : ℕ) : Type 0 where
  pub row : i < length rows
  pub tags_are : tags ≡ A.tags
  pub count : n ≤ room
  pub few : room ≤ max_steps
  pub space : room * annotation_cells ≤ length work
  pub entries : entries_in tags work n ≡ entries_below A rows i
  pub indexed : Indexed tags room work slots n
