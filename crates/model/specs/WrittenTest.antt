-- The conditions of a written run as tests that compute, one for each of the numbers 22 to 26 (document 01, section "Turned away, by place"). Assumes nothing.
use Rattle.std.specs.Prelude.{List, [], ◌∷◌, ◌++◌, map, Bool, true, false, ◌&&◌, cond, ℕ, zero, suc, ◌-◌, eqb, ltb, length, get_or}
use Rattle.model.specs.Limits.{max_children, unused}
use Rattle.model.specs.Lists.{all_below, any_below, uses?}
use Rattle.model.specs.Automaton.{Automaton, final?}
use Rattle.model.specs.Order.{place}
use Rattle.model.specs.Table.{Row}
use Rattle.model.specs.Annotation.{Memory}
use Rattle.model.specs.Written.{Step, step_at, rule_of, row_of, left_by}

-- 22: rule and row are known
abbrev pub known? : Automaton → List Row → List Step → ℕ → Bool
known? A rows run i = ltb (step_at run i).rule (length A.rules) && ltb (step_at run i).row (length rows)

-- place k of step i holds x: a lower step, on child k of the row, in the state that is child k of the rule
unfoldable pub child_fits? : Automaton → List Row → List Step → ℕ → ℕ → ℕ → Bool
child_fits? A rows run i k x =
    ltb x i && (eqb (step_at run x).row (get_or (row_of rows run i).children k unused) && eqb (rule_of A run x).target (place (rule_of A run i) k))

-- it holds such a step where the row has a child k, else 65535
unfoldable pub place_fits? : Automaton → List Row → List Step → ℕ → ℕ → ℕ → Bool
place_fits? A rows run i k x = cond (ltb k (length (row_of rows run i).children)) (child_fits? A rows run i k x) (eqb x unused)

-- 23: the rule has the row's symbol, and each place is as asked, also behind the child steps; `places i k` is what place k of step i holds
unfoldable pub step_fits? : Automaton → List Row → List Step → (ℕ → ℕ → ℕ) → ℕ → Bool
step_fits? A rows run places i =
    eqb (rule_of A run i).symbol (row_of rows run i).symbol && all_below max_children (λ k. place_fits? A rows run i k (places i k))

-- the memory that step i leaves, those of the lower steps being ms: none where a tag gets two rows
abbrev pub left_at : Automaton → List Step → List Memory → ℕ → List Memory
left_at A run ms i = left_by A (rule_of A run i) (step_at run i).row (map (λ c. get_or ms c []) (step_at run i).steps)

abbrev pub first_or : List Memory → Memory
first_or [] = []
first_or (m ∷ ms) = m

abbrev pub some? : List Memory → Bool
some? [] = false
some? (m ∷ ms) = true

-- the memories of the steps below n, worked out step by step
abbrev pub memories_below : Automaton → List Step → ℕ → List Memory
memories_below A run zero = []
memories_below A run (suc i) = memories_below A run i ++ first_or (left_at A run (memories_below A run i) i) ∷ []

-- 24: no clash at step i
abbrev pub clear? : Automaton → List Step → ℕ → Bool
clear? A run i = some? (left_at A run (memories_below A run i) i)

abbrev pub one_row? : Automaton → List Step → Bool
one_row? A run = all_below (length run) (clear? A run)

-- 25: the last step is on the last row, in a final state
abbrev pub ends? : Automaton → List Row → List Step → Bool
ends? A rows run =
    let last = length run - 1 in
    eqb (step_at run last).row (length rows - 1) && final? A (rule_of A run last).target

-- 26: a step, not the last, is used by a later one
abbrev pub used? : List Step → ℕ → Bool
used? run i = any_below (length run) (λ j. uses? j (step_at run j).steps i)
