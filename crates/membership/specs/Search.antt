-- The search for the entries that one rule makes on one row: every choice of one earlier annotation for each child, the first child's choice outermost. Assumes nothing.
use Rattle.std.specs.Prelude.{◌≡◌, List, [], ◌∷◌, Bool, ◌&&◌, ℕ, zero, suc, ◌*◌, ◌-◌, ◌<◌, ◌≤◌, eqb, length, get_or, set}
use Rattle.model.specs.Limits.{max_children, max_steps}
use Rattle.model.specs.Lists.{concat_map, only}
use Rattle.model.specs.Annotation.{Memory, Annotation, annotation, agree?, joined}
use Rattle.membership.specs.Cells.{annotation_cells, memory_of, without, memory_in}
use Rattle.membership.specs.Index.{Indexed}
use Rattle.membership.specs.Entries.{Entry}
use Rattle.membership.specs.declared.search.Want.{Want}

-- the n numbers from i on
abbrev pub span : ℕ → ℕ → List ℕ
span i zero = []
span i (suc n) = i ∷ span (suc i) n

abbrev pub no_annotation : Annotation
no_annotation = annotation 0 0 []

-- an annotation may be chosen where state q is asked and the memory m is joined so far
abbrev pub choosable? : ℕ → Memory → Annotation → Bool
choosable? q m a = eqb a.state q && agree? m a.memory

-- a memory in cells is the one joined so far with that of annotation j, whatever the number of tags
abbrev pub JoinedWith : List ℕ → ℕ → List ℕ → List ℕ → Type 0
JoinedWith work j memory out = (tags : ℕ) → tags ≤ 16 → memory_of tags out ≡ joined (memory_of tags memory) (memory_in tags work j)

-- the last step: the target's tags are added, provided no tag gets two rows
abbrev pub finished : Want → Memory → Memory → List ℕ → List Entry
finished want own m children =
    only (agree? m own)
    (record { annotation = annotation want.row.0 want.target.0 (joined m own); rule = want.rule; children = children } ∷ [])

-- what the rule leaves: its tags are dropped, then the last step
abbrev pub leaving : Want → Memory → Memory → List ℕ → List Entry
leaving want own m children = finished want own (without want.tags want.forget m) children

-- the state that is asked at place p
abbrev pub asked_state : Want → ℕ → ℕ
asked_state want p = (get_or want.states p (record { 0 = 0 })).0

-- the child annotations with number j at place p
abbrev pub with_child : List ℕ → ℕ → ℕ → List ℕ
with_child children p j = set children p j

-- annotation j chosen at place p, where it may be, and what the places after it make of that
abbrev pub chosen : List Annotation → Want → ℕ → (Memory → List ℕ → List Entry) → Memory → List ℕ → ℕ → List Entry
chosen known want p next m children j =
    only (choosable? (asked_state want p) m (get_or known j no_annotation))
    (next (joined m (get_or known j no_annotation).memory) (with_child children p j))

-- what the last `left` places make, each in its window of the known annotations
unfoldable pub found : List Annotation → Want → Memory → ℕ → Memory → List ℕ → List Entry
found known want own zero m children = leaving want own m children
found known want own (suc left) m children =
    let p = want.arity - suc left in
    concat_map (chosen known want p (λ x c. found known want own left x c) m children) (span (get_or want.low p 0) (get_or want.high p 0 - get_or want.low p 0))

-- what is asked of the work space, the count of entries n and the windows
pub record Ready (want : Want) (work : List ℕ) (n : ℕ) : Type 0 where
  pub few_tags : want.tags ≤ 16
  pub few_children : want.arity ≤ max_children
  pub known : want.base ≤ n
  pub count : n ≤ want.room
  pub few : want.room ≤ max_steps
  pub space : want.room * annotation_cells ≤ length work
  pub windows : (p : ℕ) → p < want.arity → get_or want.high p 0 ≤ want.base
  pub indexed : Indexed want.tags want.room work n
