-- The tests of a written run are its conditions: what passes them is a written run, and every written run passes. Assumes nothing.
use mathlib.Core.Path.{◌≡◌, refl, sym, ap, ◌∙◌, subst}
use mathlib.Core.Logic.{⊎_elim}
use mathlib.Core.List.Memᴰ.{eq_of_singleton}
use mathlib.Core.List.Memᴰ.{head as here}
use mathlib.Core.List.Memᴰ.{not-nil}
use mathlib.Core.List.{List, [], ◌∷◌, ◌++◌, map, Memᴰ as In}
use mathlib.Core.Bool.{Bool, true, false, cond}
use Prim.Native.Nat.{ℕ, zero, suc, ◌-◌, ◌<◌, ◌≤◌}
use native.Mathlib.Omega.{arith}
use native.Mathlib.Nat.{eq-or-lt_of_le, le_of_suc-le-suc}
use borrow.Author.Tests.{lt-ltb, le-ltb, ltb-true, ltb-false}
use lib.Dec.{T, eqb, ltb, eqb→eq, eqb_refl, ltb→lt, lt→ltb}
use lib.Seq.{get_or-append_seam}
use lib.ListN.{length, get_or, length-append, get_or-append, get_or-eq_default}
use Rattle.model.specs.Limits.{max_children, unused}
use Rattle.model.specs.Lists.{any, tab, all_below, only, concat_map, uses?}
use Rattle.model.specs.Automaton.{Rule, Automaton, arity_of, final?}
use Rattle.model.specs.Order.{place}
use Rattle.model.specs.Sound.{Sound}
use Rattle.model.specs.Table.{Row, SoundTable}
use Rattle.model.specs.Annotation.{Memory, empty_memory, agree?, joined, own_memory, kept, finish}
use Rattle.model.specs.Written.{Step, step_at, no_rule, rule_of, row_of, StepFits, joined_all, left_by, WrittenRun}
use Rattle.model.specs.WrittenTest.{known?, child_fits?, place_fits?, step_fits?, left_at, first_or, some?, memories_below, clear?, one_row?, ends?, used?}
use Rattle.model.proofs.Members.{T_and, and_T, in_any, any_in, in_concat_map, map_same}
use Rattle.model.proofs.Tab.{tab_at, length_tab}
use Rattle.model.proofs.Below.{all_at, all_of, any_below_lem, below_any}
use Rattle.model.proofs.Rows.{in_get_d}
use Rattle.model.proofs.Count.{place_of_lem}

first_in_lem : (l : List Memory) → T (some? l) → In (first_or l) l
first_in_lem [] h = absurd h
first_in_lem (m ∷ ms) h = here refl

-- there is at most one memory
only_one : (b : Bool) (x : Memory) {y : Memory} → In y (only b (x ∷ [])) → only b (x ∷ []) ≡ y ∷ []
only_one false x h = absurd (not-nil h)
only_one true x h = ap {B = List Memory} (λ z. z ∷ []) (sym (eq_of_singleton h))

joined_one : (m : Memory) (xs : List Memory) {y : Memory} → In y (joined_all m xs) → joined_all m xs ≡ y ∷ []
joined_one m [] h = ap {B = List Memory} (λ z. z ∷ []) (sym (eq_of_singleton h))
joined_one m (x ∷ xs) {y} h = go (agree? m x) h (λ g. joined_one (joined m x) xs g)
  where
    go : (b : Bool) → In y (only b (joined_all (joined m x) xs)) → (In y (joined_all (joined m x) xs) → joined_all (joined m x) xs ≡ y ∷ []) → only b (joined_all (joined m x) xs) ≡ y ∷ []
    go false h ih = absurd (not-nil h)
    go true h ih = ih h

pub left_one : (A : Automaton) (r : Rule) (i : ℕ) (xs : List Memory) {y : Memory} → In y (left_by A r i xs) → left_by A r i xs ≡ y ∷ []
left_one A r i xs h =
    let (m, im, iy) = in_concat_map (λ m. finish A r.target i (kept A r m)) (joined_all (empty_memory A) xs) h in
    ap (concat_map (λ m. finish A r.target i (kept A r m))) (joined_one (empty_memory A) xs im)
    ∙ ap {B = List Memory} (◌++ []) (only_one (agree? (kept A r m) (own_memory A r.target i)) (joined (kept A r m) (own_memory A r.target i)) iy)

-- the memories that are worked out
module _ (A : Automaton) (run : List Step) where
  abbrev pub memory_of : ℕ → Memory
  memory_of i = first_or (left_at A run (memories_below A run i) i)

  length_memories : (n : ℕ) → length (memories_below A run n) ≡ n
  length_memories zero = refl
  length_memories (suc n) = let e = length_memories n in length-append (memories_below A run n) (memory_of n ∷ []) ∙ omega arith

  pub memory_at_lem : (n c : ℕ) → c < n → get_or (memories_below A run n) c [] ≡ memory_of c
  memory_at_lem zero c l = let z : ⊥ = omega arith in absurd z
  memory_at_lem (suc n) c l =
      let ms = memories_below A run n in
      ⊎_elim
      (λ e. ap (λ z. get_or (ms ++ memory_of n ∷ []) z []) (e ∙ sym (length_memories n)) ∙ get_or-append_seam ms (memory_of n) [] [] ∙ ap memory_of (sym e))
      (λ h. get_or-append ms (memory_of n ∷ []) [] c (omega (arith, length_memories n)) ∙ memory_at_lem n c h)
      (eq-or-lt_of_le (le_of_suc-le-suc l))

  -- the steps that a step names are lower, so their memories are those
  pub kids_memories : (rows : List Row) (i : ℕ) → StepFits A rows run i → map (λ c. get_or (memories_below A run i) c []) (step_at run i).steps ≡ map memory_of (step_at run i).steps
  kids_memories rows i s =
      map_same (λ c. get_or (memories_below A run i) c []) memory_of (step_at run i).steps
      (λ c ic. let (j, lj, e) = place_of_lem 0 ic in memory_at_lem i c (subst (◌< i) e (s.lower j (omega (arith, s.one_each)))))

equal : (a b : ℕ) → a ≡ b → T (eqb a b)
equal a b e = subst (λ (c : ℕ). T (eqb a c)) e (eqb_refl a)

-- within a list the default does not matter
any_default : (xs : List ℕ) (k d e : ℕ) → k < length xs → get_or xs k d ≡ get_or xs k e
any_default [] k d e l = absurd (omega arith)
any_default (x ∷ xs) zero d e l = refl
any_default (x ∷ xs) (suc k) d e l = any_default xs k d e (omega arith)

module _ (A : Automaton) (rows : List Row) (run : List Step) where
  -- the rows of the children of step i
  abbrev pub kids : ℕ → List ℕ
  kids i = (row_of rows run i).children

  module _ (i k x : ℕ) where
    pub place_with : k < length (kids i) → place_fits? A rows run i k x ≡ child_fits? A rows run i k x
    unfolding place_fits?
    place_with l = rw (lt-ltb k (length (kids i)) l)

    pub place_without : length (kids i) ≤ k → place_fits? A rows run i k x ≡ eqb x unused
    unfolding place_fits?
    place_without l = rw (le-ltb k (length (kids i)) l)

  -- ---- what passes is a written run

  module _ (i : ℕ) (known : T (known? A rows run i)) where
    known_rule : (step_at run i).rule < length A.rules
    known_rule = ltb→lt _ _ (T_and (ltb (step_at run i).rule (length A.rules)) _ known).0

    pub known_row : (step_at run i).row < length rows
    known_row = ltb→lt _ _ (T_and (ltb (step_at run i).rule (length A.rules)) _ known).1

  -- where no step clashes, each leaves the memory that is worked out
  pub clear_leaves : ((i : ℕ) → i < length run → StepFits A rows run i) → T (one_row? A run) → (i : ℕ) → i < length run → In (memory_of A run i) (left_by A (rule_of A run i) (step_at run i).row (map (memory_of A run) (step_at run i).steps))
  clear_leaves each h i l =
      subst (λ (xs : List Memory). In (memory_of A run i) (left_by A (rule_of A run i) (step_at run i).row xs)) (kids_memories A run rows i (each i l))
      (first_in_lem (left_at A run (memories_below A run i) i) (all_at (length run) (clear? A run) h i l))

  module _ (sound : Sound A) (table : SoundTable A rows) (places : ℕ → ℕ → ℕ) where
    module _ (i : ℕ) (known : T (known? A rows run i)) (fit : T (step_fits? A rows run places i)) where
      pub few_kids : length (kids i) ≤ max_children
      few_kids = rw (table.each (step_at run i).row (known_row i known)).as_many (sound.few_children (row_of rows run i).symbol)

      both : T (eqb (rule_of A run i).symbol (row_of rows run i).symbol) × T (all_below max_children (λ k. place_fits? A rows run i k (places i k)))
      unfolding step_fits?
      both = T_and (eqb (rule_of A run i).symbol (row_of rows run i).symbol) _ fit

      same_symbol : (rule_of A run i).symbol ≡ (row_of rows run i).symbol
      same_symbol = eqb→eq _ _ both.0

      as_many : length (rule_of A run i).children ≡ length (kids i)
      as_many =
          sound.wellformed.as_many (rule_of A run i) (in_get_d no_rule A.rules (step_at run i).rule (known_rule i known))
          ∙ ap (arity_of A) same_symbol
          ∙ sym (table.each (step_at run i).row (known_row i known)).as_many

      place_fits : (k : ℕ) → k < max_children → T (place_fits? A rows run i k (places i k))
      place_fits k m = all_at max_children (λ k. place_fits? A rows run i k (places i k)) both.1 k m

      -- child step k is lower, and on the row and in the state that are asked
      child_fits : (k : ℕ) → k < length (kids i) → (places i k < i) × ((step_at run (places i k)).row ≡ get_or (kids i) k unused) × ((rule_of A run (places i k)).target ≡ place (rule_of A run i) k)
      unfolding child_fits?
      child_fits k m =
          let few = few_kids in
          let (low, on) = T_and (ltb (places i k) i) _ (subst T (place_with i k (places i k) m) (place_fits k (omega arith))) in
          let (row, state) = T_and (eqb (step_at run (places i k)).row (get_or (kids i) k unused)) _ on in
          (ltb→lt _ _ low, eqb→eq _ _ row, eqb→eq _ _ state)

      pub place_low : (k : ℕ) → k < length (kids i) → places i k < i
      place_low k m = (child_fits k m).0

      pub place_rest : (k : ℕ) → length (kids i) ≤ k → k < max_children → places i k ≡ unused
      place_rest k m o = eqb→eq _ _ (subst T (place_without i k (places i k) m) (place_fits k o))

      -- where the child steps are what stands in the places in use
      module _ (steps : (step_at run i).steps ≡ tab (length (kids i)) (places i)) where
        step_is : (k : ℕ) → k < length (kids i) → get_or (step_at run i).steps k 0 ≡ places i k
        step_is k m = ap (λ (xs : List ℕ). get_or xs k 0) steps ∙ tab_at 0 (length (kids i)) (places i) k m

        step_fits : StepFits A rows run i
        step_fits =
            record {
              known_rule = known_rule i known;
              known_row = known_row i known;
              same_symbol = same_symbol;
              as_many = as_many;
              one_each = ap length steps ∙ length_tab (length (kids i)) (places i);
              lower = λ k m. let e = step_is k m in let low = place_low k m in omega arith;
              child_row = λ k m. ap (λ (x : ℕ). (step_at run x).row) (step_is k m) ∙ (child_fits k m).1 ∙ any_default (kids i) k unused 0 m;
              child_state = λ k m.
                  ap (λ (x : ℕ). (rule_of A run x).target) (step_is k m)
                  ∙ (child_fits k m).2
                  ∙ any_default (rule_of A run i).children k unused 0 (let e = as_many in omega arith);
            }

    -- what passes 22 and 23 fits at each step
    pub tested_steps : T (all_below (length run) (known? A rows run)) → T (all_below (length run) (step_fits? A rows run places)) → ((i : ℕ) → i < length run → (step_at run i).steps ≡ tab (length (kids i)) (places i)) → (i : ℕ) → i < length run → StepFits A rows run i
    tested_steps known fit steps i l = step_fits i (all_at (length run) (known? A rows run) known i l) (all_at (length run) (step_fits? A rows run places) fit i l) (steps i l)

    pub tested_run : 0 < length run → T (all_below (length run) (known? A rows run)) → T (all_below (length run) (step_fits? A rows run places)) → ((i : ℕ) → i < length run → (step_at run i).steps ≡ tab (length (kids i)) (places i)) → T (one_row? A run) → T (ends? A rows run) → T (all_below (length run - 1) (used? run)) → WrittenRun A rows run
    unfolding uses?
    tested_run some known fit steps one ends used =
        let n = length run in
        let (e₁, e₂) = T_and (eqb (step_at run (n - 1)).row (length rows - 1)) (final? A (rule_of A run (n - 1)).target) ends in
        record {
          some_step = some;
          each = tested_steps known fit steps;
          memory = memory_of A run;
          leaves = clear_leaves (tested_steps known fit steps) one;
          last_row = eqb→eq _ _ e₁;
          last_final = e₂;
          used = λ i l.
              let (j, lj, u) = any_below_lem n (λ j. uses? j (step_at run j).steps i) (all_at (n - 1) (used? run) used i (omega arith)) in
              let (u₁, u₂) = T_and (ltb i j) _ u in
              let (x, ix, ex) = in_any (eqb i) (step_at run j).steps u₂ in
              (j, ltb→lt _ _ u₁, lj, subst (λ (z : ℕ). In z (step_at run j).steps) (sym (eqb→eq i x ex)) ix);
        }

  -- ---- a written run passes

  module _ (w : WrittenRun A rows run) where
    pub known_passes : T (all_below (length run) (known? A rows run))
    known_passes =
        all_of (length run) (known? A rows run)
        (λ i l. and_T (ltb (step_at run i).rule (length A.rules)) (ltb (step_at run i).row (length rows)) (lt→ltb _ _ (w.each i l).known_rule) (lt→ltb _ _ (w.each i l).known_row))

    -- where the places of each step hold its child steps, then 65535
    module _ (places : ℕ → ℕ → ℕ) (settled : (i : ℕ) → i < length run → (k : ℕ) → k < max_children → places i k ≡ get_or (step_at run i).steps k unused) where
      module _ (i : ℕ) (l : i < length run) where
        child_passes : (k : ℕ) → k < length (kids i) → places i k ≡ get_or (step_at run i).steps k 0 → T (child_fits? A rows run i k (places i k))
        unfolding child_fits?
        child_passes k m e =
            let s = w.each i l in
            and_T (ltb (places i k) i) _ (lt→ltb (places i k) i (let low = s.lower k m in omega arith))
            (and_T (eqb (step_at run (places i k)).row (get_or (kids i) k unused)) _
            (equal _ _ (ap (λ (x : ℕ). (step_at run x).row) e ∙ s.child_row k m ∙ any_default (kids i) k 0 unused m))
            (equal _ _ (ap (λ (x : ℕ). (rule_of A run x).target) e ∙ s.child_state k m ∙ any_default (rule_of A run i).children k 0 unused (let n = s.as_many in omega arith))))

        place_passes : (k : ℕ) → k < max_children → T (place_fits? A rows run i k (places i k))
        unfolding place_fits?
        place_passes k m = go (ltb k (length (kids i))) refl
          where
            go : (b : Bool) → ltb k (length (kids i)) ≡ b → T (cond b (child_fits? A rows run i k (places i k)) (eqb (places i k) unused))
            go true e =
                let o : k < length (kids i) = ltb-true k (length (kids i)) e in
                child_passes k o (settled i l k m ∙ any_default (step_at run i).steps k unused 0 (let n = (w.each i l).one_each in omega arith))
            go false e =
                let o : length (kids i) ≤ k = ltb-false k (length (kids i)) e in
                equal (places i k) unused (settled i l k m ∙ get_or-eq_default (step_at run i).steps unused (let n = (w.each i l).one_each in omega arith))

      pub fits_passes : T (all_below (length run) (step_fits? A rows run places))
      unfolding step_fits?
      fits_passes =
          all_of (length run) (step_fits? A rows run places)
          (λ i l. and_T (eqb (rule_of A run i).symbol (row_of rows run i).symbol) _ (equal _ _ (w.each i l).same_symbol) (all_of max_children (λ k. place_fits? A rows run i k (places i k)) (place_passes i l)))

    -- a written run has the memories that are worked out, and passes 24
    pub written_memory : (n i : ℕ) → i < n → i < length run → (left_at A run (memories_below A run i) i ≡ w.memory i ∷ []) × (memory_of A run i ≡ w.memory i)
    written_memory zero i h l = let z : ⊥ = omega arith in absurd z
    written_memory (suc n) i h l =
        let fits = w.each i l in
        let steps = (step_at run i).steps in
        let same : map (λ c. get_or (memories_below A run i) c []) steps ≡ map w.memory steps =
        kids_memories A run rows i fits
        ∙ map_same (memory_of A run) w.memory steps
        (λ c ic.
        let (j, lj, e) = place_of_lem 0 ic in
        let lc : c < i = subst (◌< i) e (fits.lower j (omega (arith, fits.one_each))) in
        (written_memory n c (omega arith) (omega arith)).1) in
        let one : left_at A run (memories_below A run i) i ≡ w.memory i ∷ [] =
        ap (left_by A (rule_of A run i) (step_at run i).row) same ∙ left_one A (rule_of A run i) (step_at run i).row (map w.memory steps) (w.leaves i l) in
        (one, ap first_or one)

    pub one_row_passes : T (one_row? A run)
    one_row_passes = all_of (length run) (clear? A run) (λ i l. subst (λ (ms : List Memory). T (some? ms)) (sym (written_memory (suc i) i (omega arith) l).0) tt)

    pub ends_passes : T (ends? A rows run)
    ends_passes = and_T (eqb (step_at run (length run - 1)).row (length rows - 1)) _ (equal _ _ w.last_row) w.last_final

    pub used_passes : T (all_below (length run - 1) (used? run))
    unfolding uses?
    used_passes =
        all_of (length run - 1) (used? run)
        (λ i l.
        let (j, low, m, k) = w.used i (omega arith) in
        below_any (length run) (λ j. uses? j (step_at run j).steps i) j m (and_T (ltb i j) (any (eqb i) (step_at run j).steps) (lt→ltb i j low) (any_in (eqb i) k (eqb_refl i))))
