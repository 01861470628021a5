-- Memories worked out step by step: where each tag has one row over all steps there is no clash; where no rule forgets, only there. Assumes nothing.
use mathlib.Core.Path.{◌≡◌, refl, sym, ap, ◌∙◌, subst}
use mathlib.Core.Logic.{⊎_elim}
use mathlib.Core.List.Memᴰ.{cases_cons as in_cons}
use mathlib.Core.List.Memᴰ.{eq_of_singleton}
use mathlib.Core.List.Memᴰ.{head as here}
use mathlib.Core.List.Memᴰ.{not-nil}
use mathlib.Core.List.Memᴰ.{tail as there}
use mathlib.Core.List.{List, [], ◌∷◌, ◌++◌, map, Memᴰ as In}
use mathlib.Core.Bool.{Bool, true, false, cond}
use Prim.Native.Nat.{ℕ, zero, suc, ◌+◌, ◌-◌, ◌<◌, ◌≤◌}
use native.Mathlib.Omega.{arith}
use native.Mathlib.Nat.{eq-or-lt_of_le, le_of_suc-le-suc}
use native.Mathlib.Decide.{dec_lt}
use lib.Dec.{T}
use lib.ListN.{length, get_or, get_or-eq_default}
use Rattle.model.specs.Lists.{concat_map, only, tab}
use Rattle.model.specs.Automaton.{Rule, Automaton, ForgetsNothing, final?, carries?}
use Rattle.model.specs.Table.{Row}
use Rattle.model.specs.Annotation.{Memory, empty_memory, agree?, joined, own_memory, kept, finish}
use Rattle.model.specs.Written.{Step, step_at, no_rule, rule_of, StepFits, joined_all, left_by, WrittenRun, OneRow}
use Rattle.model.specs.WrittenTest.{left_at, some?, first_or, memories_below, clear?, one_row?}
use Rattle.model.proofs.Members.{in_only, in_concat_map, in_map, map_in}
use Rattle.model.proofs.Memory.{Within, within_left, within_right, joined_from, agree_of, cond_from}
use Rattle.model.proofs.Tab.{tab_from, tab_at}
use Rattle.model.proofs.Rows.{in_get_d}
use Rattle.model.proofs.Count.{place_of_lem}
use Rattle.model.proofs.Below.{all_of}
use Rattle.model.proofs.Derivable.{kept_from, kept_at, width, finish_within, finish_own}
use Rattle.model.proofs.Forgetting.{not_forgotten}
use Rattle.model.proofs.Written.{step_derives}
use Rattle.model.proofs.WrittenTest.{memory_of, kids_memories, clear_leaves}

only_true : {B : Type 0} (b : Bool) (xs : List B) → T b → only b xs ≡ xs
only_true true xs h = refl
only_true false xs h = absurd h

-- memories within one memory agree, and so does what they join to
module _ (G : Memory) where
  within_agree : (a b : Memory) → Within a G → Within b G → T (agree? a b)
  within_agree a b wa wb = agree_of a b (λ k j j' e e'. let h = wa k j e in let h' = wb k j' e' in omega arith)

  within_joined : (a b : Memory) → Within a G → Within b G → Within (joined a b) G
  within_joined a b wa wb k j h = ⊎_elim (wa k j) (wb k j) (joined_from a b k j h)

  all_within : (m : Memory) (xs : List Memory) → Within m G → ((x : Memory) → In x xs → Within x G) → (y : Memory) × (joined_all m xs ≡ y ∷ []) × Within y G
  all_within m [] wm h = (m, refl, wm)
  all_within m (x ∷ xs) wm h =
      let wx = h x (here refl) in
      let (y, e, wy) = all_within (joined m x) xs (within_joined m x wm wx) (λ z iz. h z (there iz)) in
      (y, only_true (agree? m x) (joined_all (joined m x) xs) (within_agree m x wm wx) ∙ e, wy)

  left_within : (A : Automaton) (r : Rule) (i : ℕ) (xs : List Memory) → ((x : Memory) → In x xs → Within x G) → ((k : ℕ) → k < A.tags → T (carries? A r.target k) → get_or G k 0 ≡ suc i) → (y : Memory) × (left_by A r i xs ≡ y ∷ []) × Within y G
  left_within A r i xs h own =
      let (m, e, wm) = all_within (empty_memory A) xs (λ k j g. let (l, z) = tab_from A.tags (λ k. 0) k j g in let w : ⊥ = omega arith in absurd w) h in
      let x = kept A r m in
      let o = own_memory A r.target i in
      let wx : Within x G = λ k j g. wm k j (kept_from A r m k j g).2 in
      let wo : Within o G = λ k j g. let (l, c) = tab_from A.tags (λ k. cond (carries? A r.target k) (suc i) 0) k j g in let (t, q) = cond_from (carries? A r.target k) i j c in own k l t ∙ ap suc q in (
        joined x o,
        ap (concat_map (λ m. finish A r.target i (kept A r m))) e ∙ ap {B = List Memory} (◌++ []) (only_true (agree? x o) (joined x o ∷ []) (within_agree x o wx wo)),
        within_joined x o wx wo,
      )

module _ (A : Automaton) (rows : List Row) (run : List Step) (each : (i : ℕ) → i < length run → StepFits A rows run i) where
  -- where every tag of every step goes to the row that G names, there is no clash, whatever rules forget
  module _ (G : Memory) (own : (i : ℕ) → i < length run → (k : ℕ) → k < A.tags → T (carries? A (rule_of A run i).target k) → get_or G k 0 ≡ suc (step_at run i).row) where
    clear_at : (n i : ℕ) → i < n → i < length run → (y : Memory) × (left_at A run (memories_below A run i) i ≡ y ∷ []) × Within y G
    clear_at zero i h l = let z : ⊥ = omega arith in absurd z
    clear_at (suc n) i h l =
        let s = each i l in
        let steps = (step_at run i).steps in
        let (y, e, wy) = left_within G A (rule_of A run i) (step_at run i).row (map (memory_of A run) steps)
        (λ x ix.
        let (c, ic, ex) = in_map (memory_of A run) steps ix in
        let (j, lj, ej) = place_of_lem 0 ic in
        let lc : c < i = subst (◌< i) ej (s.lower j (omega (arith, s.one_each))) in
        let (z, ez, wz) = clear_at n c (omega arith) (omega arith) in
        subst (λ (m : Memory). Within m G) (sym (ex ∙ ap first_or ez)) wz)
        (own i l) in
        (y, ap (left_by A (rule_of A run i) (step_at run i).row) (kids_memories A run rows i s) ∙ e, wy)

    pub within_clear : T (one_row? A run)
    within_clear = all_of (length run) (clear? A run) (λ i l. subst (λ (ms : List Memory). T (some? ms)) (sym (clear_at (suc i) i (omega arith) l).1) tt)

  -- the row of the last step below n whose state carries tag k
  abbrev row_for : ℕ → ℕ → ℕ
  row_for zero k = 0
  row_for (suc i) k = cond (carries? A (rule_of A run i).target k) (suc (step_at run i).row) (row_for i k)

  row_for_lem : (n k i : ℕ) → i < n → T (carries? A (rule_of A run i).target k) → (j : ℕ) × (j < n) × T (carries? A (rule_of A run j).target k) × (row_for n k ≡ suc (step_at run j).row)
  row_for_lem zero k i l c = let z : ⊥ = omega arith in absurd z
  row_for_lem (suc n) k i l c = go (carries? A (rule_of A run n).target k) refl (λ h. row_for_lem n k i h c)
    where
      go : (b : Bool) → carries? A (rule_of A run n).target k ≡ b → (i < n → (j : ℕ) × (j < n) × T (carries? A (rule_of A run j).target k) × (row_for n k ≡ suc (step_at run j).row)) → (j : ℕ) × (j < suc n) × T (carries? A (rule_of A run j).target k) × (cond b (suc (step_at run n).row) (row_for n k) ≡ suc (step_at run j).row)
      go true e ih = (n, omega arith, subst T (sym e) tt, refl)
      go false e ih =
          ⊎_elim (λ q. absurd (subst T e (subst (λ z. T (carries? A (rule_of A run z).target k)) q c))) (λ h. let (j, lj, cj, ej) = ih h in (j, omega arith, cj, ej)) (eq-or-lt_of_le (le_of_suc-le-suc l))

  -- one row for each tag over all steps: no clash
  pub one_row_clear : OneRow A run → T (one_row? A run)
  one_row_clear one =
      within_clear (tab A.tags (row_for (length run)))
      (λ i l k lk c.
      let (j, lj, cj, ej) = row_for_lem (length run) k i l c in
      tab_at 0 A.tags (row_for (length run)) k lk ∙ ej ∙ ap suc (one k lk j i lj l cj c))

  -- .. so what document 01 asks of a written run is enough, whatever rules forget
  pub one_row_written : 0 < length run → OneRow A run → (step_at run (length run - 1)).row ≡ length rows - 1 → T (final? A (rule_of A run (length run - 1)).target) → ((i : ℕ) → suc i < length run → (j : ℕ) × (i < j) × (j < length run) × In i (step_at run j).steps) → WrittenRun A rows run
  one_row_written some one er final used =
      record { some_step = some; each = each; memory = memory_of A run; leaves = clear_leaves A rows run each (one_row_clear one); last_row = er; last_final = final; used = used }

-- memories that join are within what they join to
pub joined_within : (m : Memory) (xs : List Memory) {y : Memory} → In y (joined_all m xs) → Within m y × ((x : Memory) → In x xs → Within x y)
joined_within m [] h = (subst (Within m) (sym (eq_of_singleton h)) (λ k j e. e), λ x ix. absurd (not-nil ix))
joined_within m (x ∷ xs) {y} h =
    let (t, h') = in_only (agree? m x) (joined_all (joined m x) xs) h in
    let (wm, wx) = joined_within (joined m x) xs h' in
    (λ k j e. wm k j (within_left m x k j e), λ z iz. ⊎_elim (λ q. subst (λ (n : Memory). Within n y) (sym q) (λ k j e. wm k j (within_right m x t k j e))) (wx z) (in_cons iz))

pub entry_below : (x : Memory) (k j : ℕ) → get_or x k 0 ≡ suc j → k < length x
entry_below x k j h = go (dec_lt k (length x))
  where
    go : Dec (k < length x) → k < length x
    go (yes l) = l
    go (no l) = let e : get_or x k 0 ≡ 0 = get_or-eq_default x 0 (omega arith) in let z : ⊥ = omega arith in absurd z

module _ (A : Automaton) (rows : List Row) (run : List Step) (nothing : ForgetsNothing A) (w : WrittenRun A rows run) where
  -- where no rule forgets, a step's memory is within that of a step that uses it, and so within the last step's
  used_within : (i j : ℕ) → j < length run → In i (step_at run j).steps → i < length run → Within (w.memory i) (w.memory j)
  used_within i j lj ii li k n e =
      let r = rule_of A run j in
      let (m, im, iy) = in_concat_map (λ m. finish A r.target (step_at run j).row (kept A r m)) (joined_all (empty_memory A) (map w.memory (step_at run j).steps)) (w.leaves j lj) in
      let wide = width A rows (step_derives A rows run w (suc i) i (omega arith) li) in
      let lk = entry_below (w.memory i) k n e in
      finish_within A r.target (step_at run j).row (kept A r m) iy k n
      (kept_at A r m k (omega arith) (not_forgotten A r (nothing r (in_get_d no_rule A.rules (step_at run j).rule (w.each j lj).known_rule)) k)
      ∙ (joined_within (empty_memory A) (map w.memory (step_at run j).steps) im).1 (w.memory i) (map_in w.memory ii) k n e)

  last_within : (d i : ℕ) → i < length run → length run ≤ i + suc d → Within (w.memory i) (w.memory (length run - 1))
  last_within zero i l h = let e : i ≡ length run - 1 = omega arith in subst (λ z. Within (w.memory i) (w.memory z)) e (λ k n g. g)
  last_within (suc d) i l h = go (last_within d) (dec_lt (suc i) (length run))
    where
      go : ((j : ℕ) → j < length run → length run ≤ j + suc d → Within (w.memory j) (w.memory (length run - 1))) → Dec (suc i < length run) → Within (w.memory i) (w.memory (length run - 1))
      go ih (yes g) = let (j, ij, lj, ii) = w.used i g in λ k n e. ih j lj (omega arith) k n (used_within i j lj ii l k n e)
      go ih (no g) = let e : i ≡ length run - 1 = omega arith in subst (λ z. Within (w.memory i) (w.memory z)) e (λ k n g. g)

  -- .. so each tag has one row over all steps: there the new condition is the old one
  pub clear_one_row : OneRow A run
  clear_one_row k lk i j li lj ci cj =
      let a = last i li ci in
      let b = last j lj cj in
      omega arith
    where
      last : (i : ℕ) → i < length run → T (carries? A (rule_of A run i).target k) → get_or (w.memory (length run - 1)) k 0 ≡ suc (step_at run i).row
      last i l c =
          let r = rule_of A run i in
          let (m, im, iy) = in_concat_map (λ m. finish A r.target (step_at run i).row (kept A r m)) (joined_all (empty_memory A) (map w.memory (step_at run i).steps)) (w.leaves i l) in
          last_within (length run) i l (omega arith) k (step_at run i).row (finish_own A r.target (step_at run i).row (kept A r m) iy k lk c)
