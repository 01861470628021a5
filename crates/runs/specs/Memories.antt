-- What the passes of test 24 ask of the steps, and what they leave in their scratch. Assumes nothing.
use Rattle.std.specs.Prelude.{◌≡◌, cond, ℕ, suc, ◌<◌, ◌≤◌, length, get_or, Option, Some, None}
use Rattle.std.specs.Option.{option_map}
use mathlib.Core.List.{List, Memᴰ as In}
use Rattle.model.specs.Limits.{max_tags, max_steps, unused}
use Rattle.model.specs.Automaton.{Automaton, state_at, bit?}
use Rattle.model.specs.Table.{Row}
use Rattle.model.specs.Annotation.{places_agree, joined_place}
use Rattle.model.specs.Written.{Step, step_at, rule_of, StepFits}
use Rattle.model.specs.ByTag.{all_joined, all_agree?}
use Rattle.runs.specs.declared.memories.Place.{Place}
use Rattle.runs.specs.declared.memories.Tags.{Tags}

-- what stands past the last note
abbrev pub untagged : Tags
untagged = record { carried = 0; forgotten = 0 }

-- each of the n steps has a cell, takes lower steps, and is on a row that a place can name
pub record Placed (run : List Step) (n : ℕ) : Type 0 where
  pub steps : n ≡ length run
  pub few : n ≤ max_steps
  pub rows : (i : ℕ) → i < n → (step_at run i).row < unused
  pub lower : (i : ℕ) → i < n → (c : ℕ) → In c (step_at run i).steps → c < i

-- what 21 to 23 leave: the n steps fit a table, and there are few tags
pub record Fitted (A : Automaton) (run : List Step) (n : ℕ) : Type 0 where
  pub placed : Placed run n
  pub tags : A.tags ≤ max_tags
  pub table : List Row
  pub each : (i : ℕ) → i < length run → StepFits A table run i

-- the notes of the n steps: the tags that the state of each carries, and those that its rule forgets
pub record Noted (A : Automaton) (run : List Step) (n : ℕ) (notes : List Tags) : Type 0 where
  pub carried : (i : ℕ) → i < n → (get_or notes i untagged).carried ≡ (state_at A (rule_of A run i).target).mask
  pub forgotten : (i : ℕ) → i < n → (get_or notes i untagged).forgotten ≡ (rule_of A run i).forget

-- two places joined; none where they name two rows
abbrev pub both : ℕ → ℕ → Option Place
both x y = cond (places_agree x y) (Some (record { 0 = joined_place x y })) None

-- the place y joined to those before; none where these name two rows already
abbrev pub With : Option Place → ℕ → Option Place → Type 0
With None y r = r ≡ None
With (Some x) y r = r ≡ both x.0 y

-- the places xs joined; none where two of them name two rows
abbrev pub AllJoined : List ℕ → Option Place → Type 0
AllJoined xs r = r ≡ cond (all_agree? 0 xs) (Some (record { 0 = all_joined 0 xs })) None

-- tag k, j being what the children's places joined to: dropped where the rule forgets it, then added where the state carries it
abbrev pub Left : Option Place → ℕ → ℕ → ℕ → ℕ → Option Place → Type 0
Left j forget mask row k r = With (option_map (λ x. record { 0 = cond (bit? forget k) 0 x.0 }) j) (cond (bit? mask k) (suc row) 0) r
