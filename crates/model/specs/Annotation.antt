-- Annotations, bottom-up, as source document 000, section 3, derives them (document 01, section "Runs"). Assumes nothing.
use Rattle.std.specs.Prelude.{◌≡◌, Bool, true, ◌&&◌, cond, ℕ, zero, suc, ◌-◌, ◌<◌, T, eqb, length, get_or}
use mathlib.Core.List.{List, [], ◌∷◌, ◌++◌, map, Memᴰ as In}
use Rattle.model.specs.Lists.{concat_map, only, any, eq_list, tab}
use Rattle.model.specs.Automaton.{Rule, Automaton, final?, carries?, forgets?}
use Rattle.model.specs.Table.{Row, row_at}

-- A memory from tags to rows: its place k is 0 where tag k has no row, else the row's number and 1.
abbrev pub Memory : Type 0
Memory = List ℕ

abbrev pub empty_memory : Automaton → Memory
empty_memory A = tab A.tags (λ k. 0)

-- two places do not name two rows; and what they name together
abbrev pub places_agree : ℕ → ℕ → Bool
places_agree zero y = true
places_agree (suc x) zero = true
places_agree (suc x) (suc y) = eqb x y

abbrev pub joined_place : ℕ → ℕ → ℕ
joined_place zero y = y
joined_place (suc x) y = suc x

-- no tag gets two rows
abbrev pub agree? : Memory → Memory → Bool
agree? [] b = true
agree? (x ∷ a) [] = true
agree? (x ∷ a) (y ∷ b) = places_agree x y && agree? a b

abbrev pub joined : Memory → Memory → Memory
joined [] b = b
joined (x ∷ a) [] = x ∷ a
joined (x ∷ a) (y ∷ b) = joined_place x y ∷ joined a b

-- each tag of state q goes to row i
abbrev pub own_memory : Automaton → ℕ → ℕ → Memory
own_memory A q i = tab A.tags (λ k. cond (carries? A q k) (suc i) 0)

-- what is left of a memory once a rule's tags are dropped
abbrev pub kept : Automaton → Rule → Memory → Memory
kept A r m = tab A.tags (λ k. cond (forgets? r k) 0 (get_or m k 0))

-- The last step: the target's tags are added to what is left of the children's memories joined, provided no tag gets two rows.
abbrev pub finish : Automaton → ℕ → ℕ → Memory → List Memory
finish A q i m = only (agree? m (own_memory A q i)) (joined m (own_memory A q i) ∷ [])

pub record Annotation : Type 0 where
  pub row : ℕ
  pub state : ℕ
  pub memory : Memory

abbrev pub annotation : ℕ → ℕ → Memory → Annotation
annotation i q m = record { row = i; state = q; memory = m }

-- The annotations that derive: a rule on a row, an annotation for each child with the row and the state that are asked, their memories joined from the empty one, the rule's tags dropped, then the last step.
mutual
  pub data Derivable (A : Automaton) (rows : List Row) : ℕ → ℕ → Memory → Type 0 where
    derived : {i q : ℕ} {r : Rule} {m y : Memory} → i < length rows → In r A.rules → r.symbol ≡ (row_at rows i).symbol → r.target ≡ q → Joins A rows (empty_memory A) (row_at rows i).children r.children m → In y (finish A q i (kept A r m)) → Derivable A rows i q y

  -- from the memory m, children in the rows and states listed join to the last memory
  pub data Joins (A : Automaton) (rows : List Row) : Memory → List ℕ → List ℕ → Memory → Type 0 where
    joins_none : {m : Memory} → Joins A rows m [] [] m
    joins_more : {m x y : Memory} {c q : ℕ} {cs qs : List ℕ} → Derivable A rows c q x → T (agree? m x) → Joins A rows (joined m x) cs qs y → Joins A rows m (c ∷ cs) (q ∷ qs) y

-- The same, computed row by row.
abbrev pub eq_annotation : Annotation → Annotation → Bool
eq_annotation a b = eqb a.row b.row && (eqb a.state b.state && eq_list a.memory b.memory)

-- the memories that `known` has for row c in state q
abbrev pub memories : List Annotation → ℕ → ℕ → List Memory
memories [] c q = []
memories (a ∷ known) c q = only (eqb a.row c && eqb a.state q) (a.memory ∷ []) ++ memories known c q

-- the joined memories of each choice of annotations for the children, the first child's choice outermost, from the memory m
abbrev pub choices : List Annotation → Memory → List ℕ → List ℕ → List Memory
choices known m [] [] = m ∷ []
choices known m [] (q ∷ qs) = []
choices known m (c ∷ cs) [] = []
choices known m (c ∷ cs) (q ∷ qs) = concat_map (λ x. only (agree? m x) (choices known (joined m x) cs qs)) (memories known c q)

abbrev pub by_rule : Automaton → List Row → List Annotation → ℕ → Rule → List Annotation
by_rule A rows known i r =
    only (eqb r.symbol (row_at rows i).symbol)
    (map (annotation i r.target) (concat_map (λ m. finish A r.target i (kept A r m)) (choices known (empty_memory A) (row_at rows i).children r.children)))

abbrev pub add_new : List Annotation → List Annotation → List Annotation
add_new known [] = known
add_new known (a ∷ more) = add_new (cond (any (eq_annotation a) known) known (known ++ a ∷ [])) more

-- the annotations of the rows below n
abbrev pub annotations_below : Automaton → List Row → ℕ → List Annotation
annotations_below A rows zero = []
annotations_below A rows (suc i) = add_new (annotations_below A rows i) (concat_map (by_rule A rows (annotations_below A rows i) i) A.rules)

abbrev pub annotations : Automaton → List Row → List Annotation
annotations A rows = annotations_below A rows (length rows)

-- The root's state is final.
abbrev pub accepting? : Automaton → List Row → Annotation → Bool
accepting? A rows a = eqb a.row (length rows - 1) && final? A a.state

abbrev pub accepts? : Automaton → List Row → Bool
accepts? A rows = any (accepting? A rows) (annotations A rows)
