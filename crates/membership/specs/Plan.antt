-- What the functions over rows and rules say of each other: a plan for a row, what a rule asks by it, and what is known before a row. Assumes nothing.
use Rattle.std.specs.Prelude.{◌≡◌, List, map, ℕ, ◌+◌, ◌*◌, ◌<◌, ◌≤◌, length, get_or}
use Rattle.model.specs.Limits.{max_symbols, max_children, max_steps}
use Rattle.model.specs.Lists.{tab}
use Rattle.model.specs.Order.{place}
use Rattle.model.specs.Automaton.{Automaton}
use Rattle.model.specs.Table.{Row}
use Rattle.model.specs.Written.{rule_at}
use Rattle.automaton.specs.Window.{FirstFrom}
use Rattle.document.specs.Check.{place_in}
use Rattle.membership.specs.Cells.{annotation_cells}
use Rattle.membership.specs.Index.{Indexed}
use Rattle.membership.specs.Entries.{entries_in}
use Rattle.membership.specs.Listing.{entries_below}
use Rattle.membership.specs.declared.search.Want.{Want}
use Rattle.membership.specs.declared.table.Plan.{Plan}

-- for each of the first n children of row i: the number that stands for the row `shift` past it
abbrev pub Bounds : List ℕ → List ℕ → ℕ → ℕ → ℕ → List ℕ → Type 0
Bounds cells starts i n shift out = (p : ℕ) → p < n → get_or out p 0 ≡ get_or starts (place_in cells i p + shift) 0

-- what rule r asks by a plan
pub record WantFor (A : Automaton) (plan : Plan) (r : ℕ) (want : Want) : Type 0 where
  pub row : want.row.0 ≡ plan.row.0
  pub target : want.target.0 ≡ (rule_at A r).target
  pub rule : want.rule ≡ r
  pub forget : want.forget ≡ (rule_at A r).forget
  pub tags : want.tags ≡ plan.tags
  pub arity : want.arity ≡ plan.arity
  pub base : want.base ≡ plan.base
  pub room : want.room ≡ plan.room
  pub low : want.low ≡ plan.low
  pub high : want.high ≡ plan.high
  pub states : map (λ q. q.0) want.states ≡ tab max_children (place (rule_at A r))

-- the number of annotations before each row up to row i
abbrev pub Starts : Automaton → List Row → List ℕ → ℕ → Type 0
Starts A rows starts i = (c : ℕ) → c ≤ i → get_or starts c 0 ≡ length (entries_below A rows c)

-- the first rule of each symbol and of the one past the last
abbrev pub FirstRules : Automaton → List ℕ → Type 0
FirstRules A firsts = (f : ℕ) → f ≤ max_symbols → FirstFrom A f (get_or firsts f 0)

-- the work space before row i: its n annotations are those of the rows below
pub record Before (A : Automaton) (rows : List Row) (i room tags : ℕ) (work : List ℕ) (n : ℕ) : Type 0 where
  pub row : i < length rows
  pub tags_are : tags ≡ A.tags
  pub count : n ≤ room
  pub few : room ≤ max_steps
  pub space : room * annotation_cells ≤ length work
  pub entries : entries_in tags work n ≡ entries_below A rows i
  pub indexed : Indexed tags room work n
