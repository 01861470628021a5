-- The search for the entries that one rule makes on one row: every choice of one earlier annotation for each child, the first child's choice outermost. Assumes nothing.
use Rattle.std.specs.Prelude.{◌≡◌, List, [], ◌∷◌, ℕ, zero, suc, ◌*◌, ◌-◌, ◌%◌, ◌<◌, ◌≤◌, length, get_or}
use Rattle.model.specs.Limits.{max_children, max_steps}
use Rattle.model.specs.Lists.{concat_map, only}
use Rattle.model.specs.Annotation.{Memory, Annotation, annotation, agree?, joined}
use Rattle.membership.specs.Cells.{annotation_cells, without}
use Rattle.judging.specs.Index.{Indexed}
use Rattle.membership.specs.Entries.{Entry}
use Rattle.judging.specs.Chains.{classes, Opened, Chained, AsideOrSame}
use Rattle.membership.specs.Search.{span, no_annotation, choosable?, with_child}
use Rattle.membership.specs.declared.table.Plan.{Plan}
use Rattle.judging.specs.declared.search.Want.{Want}

-- what a plan says, which all rules of a row have in common: tags, children, annotations before the row, room, then where the window of each child's row starts and ends
abbrev pub tags_in : Plan → ℕ
tags_in plan = plan.tags

abbrev pub arity_in : Plan → ℕ
arity_in plan = plan.arity

abbrev pub base_in : Plan → ℕ
base_in plan = plan.base

abbrev pub room_in : Plan → ℕ
room_in plan = plan.room

abbrev pub low_in : Plan → ℕ → ℕ
low_in plan p = get_or plan.low p 0

abbrev pub high_in : Plan → ℕ → ℕ
high_in plan p = get_or plan.high p 0

-- what a rule asks: the row, the rule, its target, the tags that it forgets, then the children's states
abbrev pub row_asked : Want → ℕ
row_asked asked = asked.row.0

abbrev pub rule_asked : Want → ℕ
rule_asked asked = asked.rule

abbrev pub target_asked : Want → ℕ
target_asked asked = asked.target.0

abbrev pub forget_asked : Want → ℕ
forget_asked asked = asked.forget

abbrev pub state_asked : Want → ℕ → ℕ
state_asked asked p = (get_or asked.states p (record { 0 = 0 })).0

-- the last step: the target's tags are added, provided no tag gets two rows
abbrev pub finished : Want → Memory → Memory → List ℕ → List Entry
finished asked own m children =
    only (agree? m own)
    (record { annotation = annotation (row_asked asked) (target_asked asked) (joined m own); rule = rule_asked asked; children = children } ∷ [])

-- what the rule leaves: its tags are dropped, then the last step
abbrev pub leaving : Plan → Want → Memory → Memory → List ℕ → List Entry
leaving plan asked own m children = finished asked own (without (tags_in plan) (forget_asked asked) m) children

-- annotation j chosen at place p where state q is asked, where it may be, and what the places after it make of that
abbrev pub chosen : List Annotation → ℕ → ℕ → (Memory → List ℕ → List Entry) → Memory → List ℕ → ℕ → List Entry
chosen known p q next m children j =
    only (choosable? q m (get_or known j no_annotation))
    (next (joined m (get_or known j no_annotation).memory) (with_child children p j))

-- what the last `left` places make, each in its window of the known annotations
unfoldable pub found : List Annotation → Plan → Want → Memory → ℕ → Memory → List ℕ → List Entry
found known plan asked own zero m children = leaving plan asked own m children
found known plan asked own (suc left) m children =
    let p = arity_in plan - suc left in
    concat_map (chosen known p (state_asked asked p) (λ x c. found known plan asked own left x c) m children) (span (low_in plan p) (high_in plan p - low_in plan p))

-- what is asked of the work space, the slots, the count of entries n and the windows
pub record Ready (plan : Plan) (work slots : List ℕ) (n : ℕ) : Type 0 where
  pub few_tags : tags_in plan ≤ 16
  pub few_children : arity_in plan ≤ max_children
  pub known : base_in plan ≤ n
  pub count : n ≤ room_in plan
  pub few : room_in plan ≤ max_steps
  pub space : room_in plan * annotation_cells ≤ length work
  pub order : (p : ℕ) → p < arity_in plan → low_in plan p ≤ high_in plan p
  pub windows : (p : ℕ) → p < arity_in plan → high_in plan p ≤ base_in plan
  pub indexed : Indexed (tags_in plan) (room_in plan) work slots n

-- the class of annotation j of a list
abbrev pub class_of : List Annotation → ℕ → ℕ
class_of known j = (get_or known j no_annotation).state % classes

-- the windows of the first n children are opened, by the classes f
pub record Windows (f : ℕ → ℕ) (plan : Plan) (n : ℕ) (heads links : List ℕ) : Type 0 where
  pub opened : (p : ℕ) → p < n → Opened f p (low_in plan p) (high_in plan p) heads
  pub chained : (p : ℕ) → p < n → Chained f (low_in plan p) (high_in plan p) links

-- what is asked of the windows: each is in the work space, and two have no annotation in common, or all
pub record Separate (plan : Plan) (work : List ℕ) : Type 0 where
  pub few_children : arity_in plan ≤ max_children
  pub order : (p : ℕ) → p < arity_in plan → low_in plan p ≤ high_in plan p
  pub few : (p : ℕ) → p < arity_in plan → high_in plan p ≤ max_steps
  pub inside : (p : ℕ) → p < arity_in plan → high_in plan p * annotation_cells ≤ length work
  pub aside : (p q : ℕ) → p < arity_in plan → q < arity_in plan → AsideOrSame (low_in plan p) (high_in plan p) (low_in plan q) (high_in plan q)

-- two lists of children differ at most at the places from p up to q
pub record Alike (p q : ℕ) (c d : List ℕ) : Type 0 where
  pub as_long : length d ≡ length c
  pub below : (k : ℕ) → k < p → get_or d k 0 ≡ get_or c k 0
  pub above : (k : ℕ) → q ≤ k → get_or d k 0 ≡ get_or c k 0
