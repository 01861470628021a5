-- Written runs (document 01, section "Runs"). Assumes nothing.
use Rattle.std.specs.Prelude.{◌≡◌, ℕ, suc, ◌<◌, ◌-◌, T, length, get_or}
use mathlib.Core.List.{List, [], ◌∷◌, map, Memᴰ as In}
use Rattle.model.specs.Lists.{concat_map, only}
use Rattle.model.specs.Automaton.{Rule, Automaton, final?, carries?}
use Rattle.model.specs.Table.{Row, row_at}
use Rattle.model.specs.Annotation.{Memory, empty_memory, agree?, joined, kept, finish}

-- A step names a rule, a row and one lower step per child.
pub record Step : Type 0 where
  pub rule : ℕ
  pub row : ℕ
  pub steps : List ℕ

abbrev pub step_at : List Step → ℕ → Step
step_at run i = get_or run i (record { rule = 0; row = 0; steps = [] })

abbrev pub no_rule : Rule
no_rule = record { symbol = 0; children = []; target = 0; forget = 0 }

abbrev pub rule_at : Automaton → ℕ → Rule
rule_at A i = get_or A.rules i no_rule

abbrev pub rule_of : Automaton → List Step → ℕ → Rule
rule_of A run i = rule_at A (step_at run i).rule

abbrev pub row_of : List Row → List Step → ℕ → Row
row_of rows run i = row_at rows (step_at run i).row

-- Step i is on a known row by a known rule of its symbol; the child steps are lower, and on the rows and in the states that are asked.
pub record StepFits (A : Automaton) (rows : List Row) (run : List Step) (i : ℕ) : Type 0 where
  pub known_rule : (step_at run i).rule < length A.rules
  pub known_row : (step_at run i).row < length rows
  pub same_symbol : (rule_of A run i).symbol ≡ (row_of rows run i).symbol
  pub as_many : length (rule_of A run i).children ≡ length (row_of rows run i).children
  pub one_each : length (step_at run i).steps ≡ length (row_of rows run i).children
  pub lower : (j : ℕ) → j < length (row_of rows run i).children → get_or (step_at run i).steps j 0 < i
  pub child_row : (j : ℕ) → j < length (row_of rows run i).children → (step_at run (get_or (step_at run i).steps j 0)).row ≡ get_or (row_of rows run i).children j 0
  pub child_state : (j : ℕ) → j < length (row_of rows run i).children → (rule_of A run (get_or (step_at run i).steps j 0)).target ≡ get_or (rule_of A run i).children j 0

-- memories joined, one after the other, from the memory m: none where a tag gets two rows
abbrev pub joined_all : Memory → List Memory → List Memory
joined_all m [] = m ∷ []
joined_all m (x ∷ xs) = only (agree? m x) (joined_all (joined m x) xs)

-- The memory that a rule leaves on row i from its children's memories: these joined, the rule's tags dropped, the target's added; none where a tag gets two rows.
abbrev pub left_by : Automaton → Rule → ℕ → List Memory → List Memory
left_by A r i xs = concat_map (λ m. finish A r.target i (kept A r m)) (joined_all (empty_memory A) xs)

-- A written run, its greatest length left aside. Each step leaves a memory.
pub record WrittenRun (A : Automaton) (rows : List Row) (run : List Step) : Type 0 where
  pub some_step : 0 < length run
  pub each : (i : ℕ) → i < length run → StepFits A rows run i
  pub memory : ℕ → Memory
  pub leaves : (i : ℕ) → i < length run → In (memory i) (left_by A (rule_of A run i) (step_at run i).row (map memory (step_at run i).steps))
  pub last_row : (step_at run (length run - 1)).row ≡ length rows - 1
  pub last_final : T (final? A (rule_of A run (length run - 1)).target)
  pub used : (i : ℕ) → suc i < length run → (j : ℕ) × (i < j) × (j < length run) × In i (step_at run j).steps

-- Where two steps' states carry a tag, both are on one row: what document 01 asks, where no rule forgets.
abbrev pub OneRow : Automaton → List Step → Type 0
OneRow A run =
    (k : ℕ) → k < A.tags → (i j : ℕ) → i < length run → j < length run → T (carries? A (rule_of A run i).target k) → T (carries? A (rule_of A run j).target k) → (step_at run i).row ≡ (step_at run j).row

-- At most one step for each annotation.
abbrev pub OnePerAnnotation : (A : Automaton) (rows : List Row) (run : List Step) → WrittenRun A rows run → Type 0
OnePerAnnotation A rows run w =
    (i j : ℕ) → i < length run → j < length run → (step_at run i).row ≡ (step_at run j).row → (rule_of A run i).target ≡ (rule_of A run j).target → w.memory i ≡ w.memory j → i ≡ j

-- At most one step for each pair of row and state.
abbrev pub OnePerPair : Automaton → List Step → Type 0
OnePerPair A run =
    (i j : ℕ) → i < length run → j < length run → (step_at run i).row ≡ (step_at run j).row → (rule_of A run i).target ≡ (rule_of A run j).target → i ≡ j
