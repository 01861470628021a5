-- Test 24 one tag after the other: of each step only that tag's place is kept, so one cell per step is enough. Assumes nothing.
use Rattle.std.specs.Prelude.{List, [], ◌∷◌, ◌++◌, map, Bool, true, ◌&&◌, cond, ℕ, zero, suc, length, get_or}
use Rattle.model.specs.Lists.{all_below}
use Rattle.model.specs.Automaton.{Rule, Automaton, carries?, forgets?}
use Rattle.model.specs.Annotation.{places_agree, joined_place}
use Rattle.model.specs.Written.{Step, step_at, rule_of}

-- places joined, one after the other, from the place x; and whether no two of them name two rows
abbrev pub all_joined : ℕ → List ℕ → ℕ
all_joined x [] = x
all_joined x (y ∷ ys) = all_joined (joined_place x y) ys

abbrev pub all_agree? : ℕ → List ℕ → Bool
all_agree? x [] = true
all_agree? x (y ∷ ys) = places_agree x y && all_agree? (joined_place x y) ys

-- tag k after a rule's tags are dropped; and as a tag of state q on row i
abbrev pub kept_place : Rule → ℕ → ℕ → ℕ
kept_place r k x = cond (forgets? r k) 0 x

abbrev pub own_place : Automaton → ℕ → ℕ → ℕ → ℕ
own_place A q i k = cond (carries? A q k) (suc i) 0

-- what a rule on row i leaves of tag k, and whether it may, from the children's places
abbrev pub place_by : Automaton → Rule → ℕ → ℕ → List ℕ → ℕ
place_by A r i k xs = joined_place (kept_place r k (all_joined 0 xs)) (own_place A r.target i k)

abbrev pub place_clear? : Automaton → Rule → ℕ → ℕ → List ℕ → Bool
place_clear? A r i k xs = all_agree? 0 xs && places_agree (kept_place r k (all_joined 0 xs)) (own_place A r.target i k)

-- the places of the child steps of step i, those of the lower steps being ps
abbrev pub child_places : List Step → List ℕ → ℕ → List ℕ
child_places run ps i = map (λ c. get_or ps c 0) (step_at run i).steps

-- the places of tag k in the memories of the steps below n
abbrev pub places_below : Automaton → List Step → ℕ → ℕ → List ℕ
places_below A run k zero = []
places_below A run k (suc i) = places_below A run k i ++ place_by A (rule_of A run i) (step_at run i).row k (child_places run (places_below A run k i) i) ∷ []

abbrev pub tag_clear? : Automaton → List Step → ℕ → ℕ → Bool
tag_clear? A run k i = place_clear? A (rule_of A run i) (step_at run i).row k (child_places run (places_below A run k i) i)

abbrev pub one_row_by_tag? : Automaton → List Step → Bool
one_row_by_tag? A run = all_below A.tags (λ k. all_below (length run) (tag_clear? A run k))
