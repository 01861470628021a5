-- An accepted table has a written run with one step for each annotation; where no rule forgets, with one for each pair of row and state. Assumes nothing.
use mathlib.Core.Path.{◌≡◌, refl, sym, ap, ◌∙◌, subst}
use mathlib.Core.List.Memᴰ.{head as here}
use mathlib.Core.List.Memᴰ.{tail as there}
use mathlib.Core.List.{List, [], ◌∷◌, map, tail-eq_of_cons-eq, Memᴰ as In}
use Prim.Native.Nat.{ℕ, suc, ◌-◌, ◌<◌, ◌≤◌, zero-le}
use native.Mathlib.Omega.{arith}
use lib.Dec.{T}
use lib.ListN.{length, get_or, length-map}
use Rattle.model.specs.Automaton.{Rule, Automaton, OneRule, ForgetsNothing, final?, carries?}
use Rattle.model.specs.Run.{Accepts}
use Rattle.model.specs.Table.{Row, row_at, tree_of, Lower, Distinct}
use Rattle.model.specs.Annotation.{Memory, empty_memory, agree?, kept, finish, Derivable, derived, Joins, joins_none, joins_more, annotations}
use Rattle.model.specs.Written.{Step, step_at, no_rule, rule_at, rule_of, StepFits, joined_all, left_by, WrittenRun, OnePerAnnotation, OnePerPair}
use Rattle.model.proofs.Members.{map_in, map_at, only_in, in_concat_map, concat_map_in}
use Rattle.model.proofs.Memory.{Within}
use Rattle.model.proofs.Rows.{in_get_d}
use Rattle.model.proofs.Derivable.{kept_at, row_known, width, finish_within, finish_own}
use Rattle.model.proofs.Forgetting.{not_forgotten}
use Rattle.model.proofs.Count.{place_of_lem}
use Rattle.model.proofs.Decides.{Final, final_accepts}
use Rattle.model.proofs.Written.{few_annotations}
use Rattle.model.proofs.WrittenTest.{memory_of, clear_leaves}
use Rattle.model.proofs.OneRow.{joined_within, entry_below, within_clear}
use Rattle.model.proofs.Needed.{place_in, found, chain_holds, chain_ascends, chain_once, chain_used, chain_some, chain_last, Level, needed}

map_twice : {B C D : Type 0} (f : C → D) (g : B → C) (h : B → D) (xs : List B) → ((x : B) → In x xs → f (g x) ≡ h x) → map f (map g xs) ≡ map h xs
map_twice f g h [] e = refl
map_twice f g h (x ∷ xs) e = cc (e x (here refl), map_twice f g h xs (λ y m. e y (there m)))

module _ (A : Automaton) (rows : List Row) where
  -- an annotation that derives
  record Node : Type 0 where
    row : ℕ
    state : ℕ
    memory : Memory
    derivable : Derivable A rows row state memory

  abbrev row_of : Node → ℕ
  row_of n = n.row

  abbrev state_of : Node → ℕ
  state_of n = n.state

  abbrev memory_in : Node → Memory
  memory_in n = n.memory

  -- the child annotations that join to y
  record Nodes (m : Memory) (cs qs : List ℕ) (y : Memory) : Type 0 where
    list : List Node
    rows_are : map row_of list ≡ cs
    states_are : map state_of list ≡ qs
    joined_are : In y (joined_all m (map memory_in list))

  nodes : {m y : Memory} {cs qs : List ℕ} → Joins A rows m cs qs y → Nodes m cs qs y
  nodes joins_none = record { list = []; rows_are = refl; states_are = refl; joined_are = here refl }
  nodes (joins_more {m = m} {x = x} {y = y} {c = c} {q = q} d t js) =
      let rest = nodes js in
      record {
        list = record { row = c; state = q; memory = x; derivable = d } ∷ rest.list;
        rows_are = ap (λ l. c ∷ l) rest.rows_are;
        states_are = ap (λ l. q ∷ l) rest.states_are;
        joined_are = only_in (agree? m x) t rest.joined_are;
      }

  -- the rule and the child annotations by which an annotation derives
  record Source (i q : ℕ) (y : Memory) : Type 0 where
    rule : ℕ
    known_rule : rule < length A.rules
    same_symbol : (rule_at A rule).symbol ≡ (row_at rows i).symbol
    target : (rule_at A rule).target ≡ q
    kids : List Node
    rows_are : map row_of kids ≡ (row_at rows i).children
    states_are : map state_of kids ≡ (rule_at A rule).children
    leaves : In y (left_by A (rule_at A rule) i (map memory_in kids))

  source : {i q : ℕ} {y : Memory} → Derivable A rows i q y → Source i q y
  source (derived {i = i} {q = q} {r = r} {m = m} {y = y} l ir es et js iy) =
      let (k, lk, e) = place_of_lem no_rule ir in
      let ks = nodes js in
      record {
        rule = k;
        known_rule = lk;
        same_symbol = ap (λ (z : Rule). z.symbol) e ∙ es;
        target = ap (λ (z : Rule). z.target) e ∙ et;
        kids = ks.list;
        rows_are = ks.rows_are;
        states_are = ks.states_are ∙ sym (ap (λ (z : Rule). z.children) e);
        leaves = subst (λ (z : Rule). In y (left_by A z i (map memory_in ks.list))) (sym e)
            (concat_map_in (λ m. finish A r.target i (kept A r m)) ks.joined_are (subst (λ z. In y (finish A z i (kept A r m))) (sym et) iy));
      }

  abbrev source_of : (n : Node) → Source n.row n.state n.memory
  source_of n = source n.derivable

  abbrev kids_of : Node → List Node
  kids_of n = (source_of n).kids

  lower_kids : Lower rows → (x k : Node) → In k (kids_of x) → k.row < x.row
  lower_kids lower x k ik = lower x.row (row_known A rows x.derivable) k.row (subst (In k.row) (source_of x).rows_are (map_in row_of ik))

  -- one step for each pair of row and key; the key tells the state
  module _ (key : Node → List ℕ) (tells : (a b : Node) → key a ≡ key b → a.state ≡ b.state) (lower : Lower rows) (root : Node) (l : List Node) (v : Level row_of key kids_of root (lower_kids lower) 0 l) where
    abbrev place : Node → ℕ
    place = place_in row_of key kids_of l

    abbrev step_for : Node → Step
    step_for n = record { rule = (source_of n).rule; row = n.row; steps = map place (kids_of n) }

    abbrev run : List Step
    run = map step_for l

    at_step : (i : ℕ) → i < length l → step_at run i ≡ step_for (get_or l i root)
    at_step i h = map_at step_for root _ l i h

    state_at_lem : (i : ℕ) → i < length l → (rule_of A run i).target ≡ (get_or l i root).state
    state_at_lem i h = ap (λ (s : Step). (rule_at A s.rule).target) (at_step i h) ∙ (source_of (get_or l i root)).target

    row_at_lem : (i : ℕ) → i < length l → (step_at run i).row ≡ (get_or l i root).row
    row_at_lem i h = ap (λ (s : Step). s.row) (at_step i h)

    -- the step of a child annotation
    record KidStep (i : ℕ) (k : Node) : Type 0 where
      lower_step : place k < i
      its_row : (step_at run (place k)).row ≡ k.row
      its_state : (rule_of A run (place k)).target ≡ k.state
      known : place k < length l
      its_key : key (get_or l (place k) root) ≡ key k

    kid_step : (i : ℕ) → i < length l → (k : Node) → In k (kids_of (get_or l i root)) → KidStep i k
    kid_step i h k ik =
        let x = get_or l i root in
        let (y, iy, s) = v.closed x k (in_get_d root l i h) ik zero-le in
        let (lc, (er, es)) = found row_of key kids_of root l k y iy s in
        let down = lower_kids lower x k ik in
        record {
          lower_step = chain_ascends row_of key kids_of v.chain (place k) i lc (omega arith);
          its_row = row_at_lem (place k) lc ∙ er;
          its_state = state_at_lem (place k) lc ∙ tells (get_or l (place k) root) k es;
          known = lc;
          its_key = es;
        }

    -- the j-th child of a step
    kid_of : (x : Node) (j : ℕ) → j < length (row_at rows x.row).children → j < length (kids_of x)
    kid_of x j h = let e = ap length (sym (source_of x).rows_are) ∙ length-map (kids_of x) row_of in omega arith

    fits : (i : ℕ) → i < length l → StepFits A rows run i
    fits i h =
        let x = get_or l i root in
        let s = source_of x in
        let e = sym (at_step i h) in
        let row_length_lem = ap length (sym s.rows_are) ∙ length-map s.kids row_of in
        let rule-length = ap length (sym s.states_are) ∙ length-map s.kids state_of in
        let kid : ℕ → Node = λ j. get_or s.kids j root in
        let kid-fits : (j : ℕ) → j < length (row_at rows x.row).children → KidStep i (kid j) = λ j lj. kid_step i h (kid j) (in_get_d root s.kids j (kid_of x j lj)) in
        let its-place : (j : ℕ) → j < length (row_at rows x.row).children → place (kid j) ≡ get_or (map place s.kids) j 0 = λ j lj. sym (map_at place root 0 s.kids j (kid_of x j lj)) in
        record {
          known_rule = subst (λ (z : Step). z.rule < length A.rules) e s.known_rule;
          known_row = subst (λ (z : Step). z.row < length rows) e (row_known A rows x.derivable);
          same_symbol = subst (λ (z : Step). (rule_at A z.rule).symbol ≡ (row_at rows z.row).symbol) e s.same_symbol;
          as_many = subst (λ (z : Step). length (rule_at A z.rule).children ≡ length (row_at rows z.row).children) e (rule-length ∙ sym row_length_lem);
          one_each = subst (λ (z : Step). length z.steps ≡ length (row_at rows z.row).children) e (length-map s.kids place ∙ sym row_length_lem);
          lower = subst (λ (z : Step). (j : ℕ) → j < length (row_at rows z.row).children → get_or z.steps j 0 < i) e (λ j lj. subst (λ c. c < i) (its-place j lj) (kid-fits j lj).lower_step);
          child_row = subst (λ (z : Step). (j : ℕ) → j < length (row_at rows z.row).children → (step_at run (get_or z.steps j 0)).row ≡ get_or (row_at rows z.row).children j 0) e
              (λ j lj. subst (λ c. (step_at run c).row ≡ get_or (row_at rows x.row).children j 0) (its-place j lj)
              ((kid-fits j lj).its_row ∙ sym (map_at row_of root 0 s.kids j (kid_of x j lj)) ∙ ap (λ c. get_or c j 0) s.rows_are));
          child_state = subst (λ (z : Step). (j : ℕ) → j < length (row_at rows z.row).children → (rule_of A run (get_or z.steps j 0)).target ≡ get_or (rule_at A z.rule).children j 0) e
              (λ j lj. subst (λ c. (rule_of A run c).target ≡ get_or (rule_at A s.rule).children j 0) (its-place j lj)
              ((kid-fits j lj).its_state ∙ sym (map_at state_of root 0 s.kids j (kid_of x j lj)) ∙ ap (λ c. get_or c j 0) s.states_are));
        }

    used : (i : ℕ) → suc i < length l → (j : ℕ) × (i < j) × (j < length l) × In i (step_at run j).steps
    used i h =
        let (j, ij, lj, ik) = chain_used row_of key kids_of v.chain i h in
        let x = get_or l i root in
        let lx : i < length l = omega arith in
        let (lc, s) = found row_of key kids_of root l x x (in_get_d root l i lx) (refl, refl) in
        let e = chain_once row_of key kids_of v.chain (place x) i lc lx s in
        (j, ij, lj, subst (λ (z : Step). In i z.steps) (sym (at_step j lj)) (subst (λ c. In c (map place (kids_of (get_or l j root)))) e (map_in place ik)))

    -- nodes with one row and one key are one
    one_step : (i j : ℕ) → i < length run → j < length run → (step_at run i).row ≡ (step_at run j).row → key (get_or l i root) ≡ key (get_or l j root) → i ≡ j
    one_step i j li lj er ek =
        let n = length-map l step_for in
        let hi : i < length l = omega arith in
        let hj : j < length l = omega arith in
        chain_once row_of key kids_of v.chain i j hi hj (sym (row_at_lem i hi) ∙ er ∙ row_at_lem j hj, ek)

    -- a written run, where the steps leave memories
    abbrev written : (memory : ℕ → Memory) → ((i : ℕ) → i < length run → In (memory i) (left_by A (rule_of A run i) (step_at run i).row (map memory (step_at run i).steps))) → root.row ≡ length rows - 1 → T (final? A root.state) → WrittenRun A rows run
    written memory leaves er final =
        let n = length-map l step_for in
        let some-node = chain_some row_of key kids_of v.chain in
        let last : ℕ = length run - 1 in
        let is-step : last < length l = omega arith in
        let is_root = chain_last row_of key kids_of v.chain last (omega arith) in
        record {
          some_step = omega arith;
          each = λ i h. fits i (omega arith);
          memory = memory;
          leaves = leaves;
          last_row = row_at_lem last is-step ∙ ap row_of is_root ∙ er;
          last_final = subst (λ q. T (final? A q)) (sym (state_at_lem last is-step ∙ ap state_of is_root)) final;
          used = λ i h. let (j, ij, lj, m) = used i (omega arith) in (j, ij, omega arith, m);
        }

  -- ONE STEP FOR EACH ANNOTATION: a step leaves the memory of its annotation
  abbrev whole : Node → List ℕ
  whole n = n.state ∷ n.memory

  whole_state : (a b : Node) → whole a ≡ whole b → a.state ≡ b.state
  whole_state a b e = ap (λ (l : List ℕ). get_or l 0 0) e

  module _ (lower : Lower rows) (root : Node) (l : List Node) (v : Level row_of whole kids_of root (lower_kids lower) 0 l) where
    abbrev whole_run : List Step
    whole_run = run whole whole_state lower root l v

    abbrev memory_for : ℕ → Memory
    memory_for i = (get_or l i root).memory

    whole_leaves : (i : ℕ) → i < length whole_run → In (memory_for i) (left_by A (rule_of A whole_run i) (step_at whole_run i).row (map memory_for (step_at whole_run i).steps))
    whole_leaves i li =
        let h : i < length l = omega (arith, length-map l (step_for whole whole_state lower root l v)) in
        let x = get_or l i root in
        let p = place whole whole_state lower root l v in
        let same : map memory_for (map p (kids_of x)) ≡ map memory_in (kids_of x) = map_twice memory_for p memory_in (kids_of x) (λ k ik. tail-eq_of_cons-eq (kid_step whole whole_state lower root l v i h k ik).its_key) in
        subst (λ (s : Step). In (memory_for i) (left_by A (rule_at A s.rule) s.row (map memory_for s.steps))) (sym (at_step whole whole_state lower root l v i h))
        (subst (λ (ms : List Memory). In (memory_for i) (left_by A (rule_at A (source_of x).rule) x.row ms)) (sym same) (source_of x).leaves)

    whole_written : root.row ≡ length rows - 1 → T (final? A root.state) → (w : WrittenRun A rows whole_run) × OnePerAnnotation A rows whole_run w
    whole_written er final = (
      written whole whole_state lower root l v memory_for whole_leaves er final,
      λ i j li lj e es em.
          let n = length-map l (step_for whole whole_state lower root l v) in
          one_step whole whole_state lower root l v i j li lj e
          (cc (sym (state_at_lem whole whole_state lower root l v i (omega arith)) ∙ es ∙ state_at_lem whole whole_state lower root l v j (omega arith), em)),
    )

  -- ONE STEP FOR EACH PAIR OF ROW AND STATE, where no rule forgets: a step may leave another memory than its annotation, and all are within the root's
  abbrev pair : Node → List ℕ
  pair n = n.state ∷ []

  pair_state_lem : (a b : Node) → pair a ≡ pair b → a.state ≡ b.state
  pair_state_lem a b e = ap (λ (l : List ℕ). get_or l 0 0) e

  module _ (nothing : ForgetsNothing A) where
    kid_within : (x k : Node) → In k (kids_of x) → Within k.memory x.memory
    kid_within x k ik g n e =
        let s = source_of x in
        let r = rule_at A s.rule in
        let (m, im, iy) = in_concat_map (λ m. finish A r.target x.row (kept A r m)) (joined_all (empty_memory A) (map memory_in s.kids)) s.leaves in
        let wide = width A rows k.derivable in
        let lg = entry_below k.memory g n e in
        finish_within A r.target x.row (kept A r m) iy g n
        (kept_at A r m g (omega arith) (not_forgotten A r (nothing r (in_get_d no_rule A.rules s.rule s.known_rule)) g)
        ∙ (joined_within (empty_memory A) (map memory_in s.kids) im).1 k.memory (map_in memory_in ik) g n e)

    own_row : (x : Node) (k : ℕ) → k < A.tags → T (carries? A x.state k) → get_or x.memory k 0 ≡ suc x.row
    own_row x k lk c =
        let s = source_of x in
        let r = rule_at A s.rule in
        let (m, im, iy) = in_concat_map (λ m. finish A r.target x.row (kept A r m)) (joined_all (empty_memory A) (map memory_in s.kids)) s.leaves in
        finish_own A r.target x.row (kept A r m) iy k lk (subst (λ q. T (carries? A q k)) (sym s.target) c)

    module _ (lower : Lower rows) (root : Node) (l : List Node) (v : Level row_of pair kids_of root (lower_kids lower) 0 l) where
      abbrev pair_run : List Step
      pair_run = run pair pair_state_lem lower root l v

      -- every annotation reached has its memory within the root's, so a tag has one row
      tag_row : (i : ℕ) → i < length pair_run → (k : ℕ) → k < A.tags → T (carries? A (rule_of A pair_run i).target k) → get_or root.memory k 0 ≡ suc (step_at pair_run i).row
      tag_row i li k lk c =
          let h : i < length l = omega (arith, length-map l (step_for pair pair_state_lem lower root l v)) in
          let x = get_or l i root in
          let reached : Within x.memory root.memory =
          chain_holds row_of pair kids_of (λ n. Within n.memory root.memory) (λ g j e. e) (λ n m w im g j e. w g j (kid_within n m im g j e)) v.chain x (in_get_d root l i h) in
          reached k (step_at pair_run i).row (own_row x k lk (subst (λ q. T (carries? A q k)) (state_at_lem pair pair_state_lem lower root l v i h) c) ∙ ap suc (sym (row_at_lem pair pair_state_lem lower root l v i h)))

      pair_written : root.row ≡ length rows - 1 → T (final? A root.state) → WrittenRun A rows pair_run
      pair_written er final =
          let n = length-map l (step_for pair pair_state_lem lower root l v) in
          let each : (i : ℕ) → i < length pair_run → StepFits A rows pair_run i = λ i h. fits pair pair_state_lem lower root l v i (omega arith) in
          written pair pair_state_lem lower root l v (memory_of A pair_run)
          (clear_leaves A rows pair_run each (within_clear A rows pair_run each root.memory tag_row)) er final

      pair_once : OnePerPair A pair_run
      pair_once i j li lj er es =
          let n = length-map l (step_for pair pair_state_lem lower root l v) in
          one_step pair pair_state_lem lower root l v i j li lj er (ap {B = List ℕ} (λ z. z ∷ []) (sym (state_at_lem pair pair_state_lem lower root l v i (omega arith)) ∙ es ∙ state_at_lem pair pair_state_lem lower root l v j (omega arith)))

module _ (A : Automaton) (rows : List Row) (lower : Lower rows) where
  abbrev root_of : Final A rows → Node A rows
  root_of f = record { row = length rows - 1; state = f.state; memory = f.memory; derivable = f.derivable }

  -- An annotation of the last row in a final state gives a written run with at most one step for each annotation; rows may be equal here.
  pub written_run : Final A rows → (run : List Step) × (w : WrittenRun A rows run) × OnePerAnnotation A rows run w
  written_run f =
      let (l, v) = needed (row_of A rows) (whole A rows) (kids_of A rows) (root_of f) (lower_kids A rows lower) in
      let (w, one) = whole_written A rows lower (root_of f) l v refl f.final in
      (whole_run A rows lower (root_of f) l v, w, one)

  -- .. and, where no rule forgets, with at most one step for each pair of row and state
  pub paired_run : ForgetsNothing A → Final A rows → (run : List Step) × WrittenRun A rows run × OnePerPair A run
  paired_run nothing f =
      let (l, v) = needed (row_of A rows) (pair A rows) (kids_of A rows) (root_of f) (lower_kids A rows lower) in
      (pair_run A rows nothing lower (root_of f) l v, pair_written A rows nothing lower (root_of f) l v refl f.final, pair_once A rows nothing lower (root_of f) l v)

module _ (A : Automaton) (rows : List Row) (some_row : 0 < length rows) (lower : Lower rows) (once : OneRule A) (distinct : Distinct rows) where
  -- THE THEOREM: where an accepting run exists, there is a written one with no more steps than annotations.
  pub few_steps : Accepts A (tree_of rows) → (run : List Step) × WrittenRun A rows run × (length run ≤ length (annotations A rows))
  few_steps a =
      let (run, w, one) = written_run A rows lower ((final_accepts A rows some_row lower once distinct).1 a) in
      (run, w, few_annotations A rows run w lower one)

  -- .. and, where no rule forgets, one with at most one step for each pair of row and state besides
  pub short_run : ForgetsNothing A → Accepts A (tree_of rows) → (run : List Step) × WrittenRun A rows run × OnePerPair A run × (length run ≤ length (annotations A rows))
  short_run nothing a =
      let (run, w, one) = paired_run A rows lower nothing ((final_accepts A rows some_row lower once distinct).1 a) in
      (run, w, one, few_annotations A rows run w lower (λ i j li lj er es em. one i j li lj er es))
