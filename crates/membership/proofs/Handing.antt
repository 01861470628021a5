-- The run that is written is a written run, of no more steps than annotations. Assumes nothing.
use mathlib.Core.Path.{◌≡◌, refl, sym, ap, ◌∙◌, subst}
use mathlib.Core.List.{List, [], ◌∷◌, ◌++◌, append-nil}
use mathlib.Core.Bool.{Bool, true, false, ◌||◌, cond}
use Prim.Native.Nat.{ℕ, zero, suc, ◌*◌, ◌-◌, ◌<◌, ◌≤◌}
use native.Mathlib.Omega.{arith}
use native.Mathlib.Decide.{dec_lt}
use borrow.Author.Tests.{lt-ltb, le-ltb}
use lib.Dec.{T, eqb, eqb→eq}
use lib.ListN.{length, get_or, drop}
use Rattle.std.specs.Prelude.{Some, None}
use Rattle.model.specs.Limits.{max_children, max_steps, unused}
use Rattle.model.specs.Lists.{only, any, tab, any_below}
use Rattle.model.specs.Automaton.{Automaton, final?}
use Rattle.model.specs.Table.{Row, row_at}
use Rattle.model.specs.Annotation.{Annotation, annotations, accepting?, accepts?}
use Rattle.model.specs.Written.{Step}
use Rattle.model.proofs.Members.{T_true, T_and}
use Rattle.model.proofs.Below.{below_any}
use Rattle.model.proofs.Tab.{tab_at, tab_past}
use Rattle.automaton.proofs.Parts.{tab_same}
use Rattle.runs.specs.Steps.{step_cells, encode_step, encode_steps}
use Rattle.membership.specs.Cells.{cell_of, annotation_in, annotations_in, rule_in, child_in}
use Rattle.membership.specs.Entries.{Entry, entry_in}
use Rattle.membership.specs.Sources.{annotation_at, Sourced, SourcedIn}
use Rattle.membership.specs.Trace.{reached?, rank_of, KeptBut, Reached, Traced, step_place, steps_written, accepting_in}
use Rattle.membership.specs.Handed.{StepsWritten, RunWritten}
use Rattle.membership.proofs.Reading.{any_annotation}
use Rattle.membership.proofs.Spans.{concat_map_append}
use Rattle.membership.proofs.Adding.{annotation_at_lem}
use Rattle.membership.proofs.Storing.{entry_cells}
use Rattle.membership.proofs.Ranks.{rank_most, rank_below, picked, length_picked}
use Rattle.membership.proofs.Traced.{arity_at, step_for, child_lower, child_rest, run, traced_run}

-- marks leave the annotations and their sources alone
module _ (A : Automaton) (rows : List Row) (before after : List ℕ) (n : ℕ) (few : A.tags ≤ 16) (kept : KeptBut 26 before after) where
  entry_kept : (j : ℕ) → entry_in A.tags after j ≡ entry_in A.tags before j
  entry_kept j = entry_cells A.tags before after j few (λ k l. kept j k (omega arith) (λ e. omega arith))

  annotations_kept : annotations_in A.tags after n ≡ annotations_in A.tags before n
  unfolding annotations_in
  annotations_kept = tab_same n (annotation_in A.tags after) (annotation_in A.tags before) (λ j l. ap (λ (e : Entry). e.annotation) (entry_kept j))

  sources_kept : SourcedIn A rows A.tags before n → SourcedIn A rows A.tags after n
  sources_kept src j l =
      subst (λ (known : List Annotation). Sourced A rows known j (rule_in after j) (tab max_children (child_in after j))) (sym annotations_kept)
      (subst (λ (e : Entry). Sourced A rows (annotations_in A.tags before n) j e.rule e.children) (sym (entry_kept j)) (src j l))

-- whether some annotation is accepting
none_below : (n : ℕ) (p : ℕ → Bool) → ((j : ℕ) → j < n → p j ≡ false) → any_below n p ≡ false
unfolding any_below
none_below zero p h = refl
none_below (suc n) p h = λ x. none_below n p (λ j l. h j (omega arith)) x || h n (omega arith) x

module _ (A : Automaton) (rows : List Row) (work : List ℕ) (n last : ℕ) (held : annotations_in A.tags work n ≡ annotations A rows) (el : last ≡ length rows - 1) where
  accepts_any : accepts? A rows ≡ any_below n (accepting_in A last work)
  accepts_any =
      ap (any (accepting? A rows)) (sym held)
      ∙ any_annotation (accepting? A rows) A.tags work n
      ∙ ap (λ k. any_below n (accepting_in A k work)) (sym el)

  accepts_none : ((j : ℕ) → j < n → accepting_in A last work j ≡ false) → accepts? A rows ≡ false
  accepts_none none = accepts_any ∙ none_below n (accepting_in A last work) none

  accepts_some : (r : ℕ) → r < n → accepting_in A last work r ≡ true → accepts? A rows ≡ true
  accepts_some r l found = accepts_any ∙ (T_true _).0 (below_any n (accepting_in A last work) r l ((T_true _).1 found))

-- the cells of the run are those of its steps
module _ (A : Automaton) (rows : List Row) (narrow : (i : ℕ) → i < length rows → length (row_at rows i).children ≤ max_children) (work : List ℕ) (n root : ℕ) (is_root : root < n) (few : n ≤ max_steps) (src : SourcedIn A rows A.tags work n) (reached : Reached work root) where
  abbrev step_of : ℕ → Step
  step_of = step_for A rows narrow work n root is_root few src reached

  step_cells_lem : (j : ℕ) → j < n → encode_step (step_of j) ≡ rule_in work j ∷ cell_of work j 0 ∷ tab max_children (step_place work (reached? work) j)
  step_cells_lem j l =
      λ x. rule_in work j ∷ ap (λ (a : Annotation). a.row) (annotation_at_lem A.tags work n j l) x ∷ tab_same max_children (λ p. get_or (tab arity rank) p unused) (step_place work (reached? work) j) (λ p lp. place p lp (dec_lt p arity)) x
    where
      arity : ℕ
      arity = arity_at A rows narrow work n root is_root few src reached j

      rank : ℕ → ℕ
      rank p = rank_of (reached? work) (child_in work j p)

      place : (p : ℕ) → p < max_children → Dec (p < arity) → get_or (tab arity rank) p unused ≡ step_place work (reached? work) j p
      place p lp (yes h) = tab_at unused arity rank p h ∙ sym (ap (λ b. cond b (rank p) unused) (lt-ltb (child_in work j p) j (child_lower A rows narrow work n root is_root few src reached j p l h)))
      place p lp (no h) =
          let e = child_rest A rows narrow work n root is_root few src reached j p l (omega (arith, h)) lp in
          tab_past unused arity rank p (omega (arith, h)) ∙ sym (ap (λ b. cond b (rank p) unused) (le-ltb (child_in work j p) j (omega arith)))

  run_cells : (j : ℕ) → j ≤ n → encode_steps (picked (reached? work) step_of j) ≡ steps_written work (reached? work) j
  unfolding steps_written
  run_cells zero l = refl
  run_cells (suc j) l =
      concat_map_append encode_step (picked (reached? work) step_of j) (only (reached? work j) (step_of j ∷ []))
      ∙ ap (λ z. z ++ encode_steps (only (reached? work j) (step_of j ∷ []))) (run_cells j (omega arith))
      ∙ ap (λ z. steps_written work (reached? work) j ++ z) (go (reached? work j))
    where
      go : (b : Bool) → encode_steps (only b (step_of j ∷ [])) ≡ only b (rule_in work j ∷ cell_of work j 0 ∷ tab max_children (step_place work (reached? work) j))
      go true = append-nil (encode_step (step_of j)) ∙ step_cells_lem j l
      go false = refl

-- THE RUN WRITTEN, in the two cases.
module _ (A : Automaton) (rows : List Row) (narrow : (i : ℕ) → i < length rows → length (row_at rows i).children ≤ max_children) (tags : A.tags ≤ 16) (work : List ℕ) (n last : ℕ) (few : n ≤ max_steps) (held : annotations_in A.tags work n ≡ annotations A rows) (src : SourcedIn A rows A.tags work n) (el : last ≡ length rows - 1) (run₀ : List ℕ) where
  pub nothing_written : ((j : ℕ) → j < n → accepting_in A last work j ≡ false) → RunWritten A rows n run₀ run₀ None
  nothing_written none = (accepts_none A rows work n last held el none, refl)

  pub run_written : (root : ℕ) → root < n → accepting_in A last work root ≡ true → (work' run' : List ℕ) (r : ℕ) → Traced work root work' → StepsWritten work' root run₀ run' r → RunWritten A rows n run₀ run' (Some r)
  run_written root is_root found work' run' r t w = (
    let a = w.count in let b = rank_below (reached? work') root (suc root) (omega arith) t.reached.from in omega arith,
    let e = w.count in let m = rank_most (reached? work') (suc root) in omega arith,
    accepts_some A rows work n last held el root is_root found,
    record {
      run = run A rows narrow work' n root is_root few src' t.reached;
      written = traced_run A rows narrow work' n root is_root few src' t.reached root_row root_final;
      count = length_picked (reached? work') (step_for A rows narrow work' n root is_root few src' t.reached) (suc root) ∙ sym w.count;
      cells = w.cells ∙ ap (λ z. z ++ drop (r * step_cells) run₀) (sym (run_cells A rows narrow work' n root is_root few src' t.reached (suc root) is_root));
    },
  )
    where
      src' : SourcedIn A rows A.tags work' n
      src' = sources_kept A rows work work' n tags t.kept src

      root_is : annotation_at (annotations_in A.tags work' n) root ≡ annotation_in A.tags work root
      root_is = ap (λ z. annotation_at z root) (annotations_kept A rows work work' n tags t.kept) ∙ annotation_at_lem A.tags work n root is_root

      passes : T (accepting_in A last work root)
      passes = (T_true _).1 found

      root_row : (annotation_at (annotations_in A.tags work' n) root).row ≡ length rows - 1
      root_row = ap (λ (a : Annotation). a.row) root_is ∙ eqb→eq (cell_of work root 0) last (T_and (eqb (cell_of work root 0) last) (final? A (cell_of work root 1)) passes).0 ∙ el

      root_final : T (final? A (annotation_at (annotations_in A.tags work' n) root).state)
      root_final = subst (λ (a : Annotation). T (final? A a.state)) (sym root_is) (T_and (eqb (cell_of work root 0) last) (final? A (cell_of work root 1)) passes).1
