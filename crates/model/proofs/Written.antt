-- A written run is an accepting run; with one step for each annotation, or each pair of row and state, it is short. Assumes nothing.
use mathlib.Core.Path.{◌≡◌, refl, sym, ◌∙◌, subst}
use mathlib.Core.List.Memᴰ.{eq_of_singleton}
use mathlib.Core.List.{List, [], ◌∷◌, map, Memᴰ as In}
use Prim.Native.Nat.{ℕ, zero, suc, ◌+◌, ◌*◌, ◌-◌, ◌/◌, ◌%◌, ◌<◌, ◌≤◌}
use native.Mathlib.Omega.{arith}
use lib.Arith.{digits_lt, digits_div, digits_mod}
use lib.ListN.{length, get_or, length-map}
use Rattle.model.specs.Lists.{tab}
use Rattle.model.specs.Automaton.{Automaton, OneRule, Wellformed}
use Rattle.model.specs.Run.{Accepts}
use Rattle.model.specs.Table.{Row, tree_of, Lower, Distinct}
use Rattle.model.specs.Annotation.{Memory, Annotation, annotation, annotations, empty_memory, agree?, joined, kept, finish, Derivable, derived, Joins, joins_none, joins_more}
use Rattle.model.specs.Written.{Step, step_at, rule_of, row_of, no_rule, joined_all, WrittenRun, OnePerAnnotation, OnePerPair}
use Rattle.model.proofs.Members.{map_at, in_only, in_concat_map}
use Rattle.model.proofs.Tab.{length_tab, tab_in}
use Rattle.model.proofs.Rows.{in_get_d}
use Rattle.model.proofs.Derivable.{row_known}
use Rattle.model.proofs.Listed.{listed_derivable}
use Rattle.model.proofs.Decides.{Final, final_accepts}
use Rattle.model.proofs.Count.{pigeonhole}

module _ (A : Automaton) (rows : List Row) where
  -- annotations that derive for each child, their memories joined
  all_join : (cs qs : List ℕ) (xs : List Memory) (m : Memory) {y : Memory} → length qs ≡ length cs → length xs ≡ length cs → ((j : ℕ) → j < length cs → Derivable A rows (get_or cs j 0) (get_or qs j 0) (get_or xs j [])) → In y (joined_all m xs) → Joins A rows m cs qs y
  all_join [] [] [] m e e' d h = subst (Joins A rows m [] []) (sym (eq_of_singleton h)) joins_none
  all_join [] [] (x ∷ xs) m e e' d h = let z : ⊥ = omega arith in absurd z
  all_join [] (q ∷ qs) xs m e e' d h = let z : ⊥ = omega arith in absurd z
  all_join (c ∷ cs) [] xs m e e' d h = let z : ⊥ = omega arith in absurd z
  all_join (c ∷ cs) (q ∷ qs) [] m e e' d h = let z : ⊥ = omega arith in absurd z
  all_join (c ∷ cs) (q ∷ qs) (x ∷ xs) m e e' d h =
      let (t, h') = in_only (agree? m x) (joined_all (joined m x) xs) h in
      joins_more (d 0 (omega arith)) t (all_join cs qs xs (joined m x) (omega arith) (omega arith) (λ j l. d (suc j) (omega arith)) h')

module _ (A : Automaton) (rows : List Row) (run : List Step) (written : WrittenRun A rows run) where
  -- each step is an annotation that derives
  pub step_derives : (n i : ℕ) → i < n → i < length run → Derivable A rows (step_at run i).row (rule_of A run i).target (written.memory i)
  step_derives zero i h l = let z : ⊥ = omega arith in absurd z
  step_derives (suc n) i h l =
      let s = written.each i l in
      let r = rule_of A run i in
      let steps = (step_at run i).steps in
      let (m, im, iy) = in_concat_map (λ m. finish A r.target (step_at run i).row (kept A r m)) (joined_all (empty_memory A) (map written.memory steps)) (written.leaves i l) in
      derived s.known_row (in_get_d no_rule A.rules (step_at run i).rule s.known_rule) s.same_symbol refl
      (all_join A rows (row_of rows run i).children r.children (map written.memory steps) (empty_memory A) s.as_many (length-map steps written.memory ∙ s.one_each)
      (λ j lj.
      let c = get_or steps j 0 in
      let lc = s.lower j lj in
      let d = step_derives n c (omega arith) (omega arith) in
      subst (Derivable A rows _ _) (sym (map_at written.memory 0 [] steps j (omega (arith, s.one_each))))
      (subst (λ z. Derivable A rows z (get_or r.children j 0) (written.memory c)) (s.child_row j lj) (subst (λ z. Derivable A rows (step_at run c).row z (written.memory c)) (s.child_state j lj) d)))
      im)
      iy

  last_final : Final A rows
  last_final =
      let last : ℕ = length run - 1 in
      let d = step_derives (suc last) last (omega arith) (omega (arith, written.some_step)) in
      record {
        state = (rule_of A run last).target;
        memory = written.memory last;
        final = written.last_final;
        derivable = subst (λ z. Derivable A rows z (rule_of A run last).target (written.memory last)) written.last_row d;
      }

  -- A written run is an accepting run.
  pub run_accepted : Lower rows → OneRule A → Distinct rows → Accepts A (tree_of rows)
  run_accepted lower once distinct =
      let d = row_known A rows last_final.derivable in
      (final_accepts A rows (omega arith) lower once distinct).0 last_final

  -- With one step for each annotation there are no more steps than annotations.
  pub few_annotations : Lower rows → OnePerAnnotation A rows run written → length run ≤ length (annotations A rows)
  few_annotations lower once =
      pigeonhole (λ i (a : Annotation). (a.row ≡ (step_at run i).row) × (a.state ≡ (rule_of A run i).target) × (a.memory ≡ written.memory i)) (length run) (annotations A rows)
      (λ i l.
      let a = annotation (step_at run i).row (rule_of A run i).target (written.memory i) in
      (a, (listed_derivable A rows lower a).1 (step_derives (suc i) i (omega arith) l), (refl, refl, refl)))
      (λ i j a li lj (er, eq, em) (er', eq', em'). once i j li lj (sym er ∙ er') (sym eq ∙ eq') (sym em ∙ em'))

  module _ (once : OnePerPair A run) where
    -- With one step for each pair of row and state there are no more than rows times states.
    pub few_pairs : Wellformed A → length run ≤ length rows * length A.states
    few_pairs wellformed =
        let states = length A.states in
        subst (λ n. length run ≤ n) (length_tab (length rows * states) (λ n. n))
        (pigeonhole (λ i n. (n / states ≡ (step_at run i).row) × (n % states ≡ (rule_of A run i).target)) (length run) (tab (length rows * states) (λ n. n))
        (λ i l.
        let s = written.each i l in
        let row : ℕ = (step_at run i).row in
        let known = wellformed.targets (rule_of A run i) (in_get_d no_rule A.rules (step_at run i).rule s.known_rule) in
        (row * states + (rule_of A run i).target, tab_in (length rows * states) (λ n. n) _ (digits_lt s.known_row known), (digits_div row known, digits_mod row known)))
        (λ i j n li lj (er, eq) (er', eq'). once i j li lj (sym er ∙ er') (sym eq ∙ eq')))
