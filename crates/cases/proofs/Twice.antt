-- Every run of set B on pair(a,a) that passes the run check has two steps on row 0, one in each state. Assumes nothing.
use mathlib.Core.Path.{◌≡◌, refl, sym, ap, ◌∙◌, subst}
use mathlib.Core.Logic.{◌⊎◌, inl, inr}
use mathlib.Core.List.{List, [], ◌∷◌}
use mathlib.Core.Bool.{true, false, cond}
use Prim.Native.Nat.{ℕ, zero, suc, ◌+◌, ◌-◌, ◌<◌, ◌≤◌}
use native.Mathlib.Omega.{arith}
use native.Mathlib.Decide.{dec_lt}
use lib.Dec.{eqb}
use lib.ListN.{length, get_or}
use Rattle.model.specs.Automaton.{Automaton}
use Rattle.model.specs.Table.{Row, row_at}
use Rattle.model.specs.Written.{Step, step_at, rule_at, rule_of, WrittenRun}
use Rattle.model.proofs.Count.{place_of_lem}
use Rattle.automaton.specs.Stored.{decode}
use Rattle.document.specs.Rows.{cell_in, decode_rows}
use Rattle.runs.specs.Steps.{decode_steps}
use Rattle.runs.specs.Check.{check_run_of}
use Rattle.runs.proofs.Meaning.{run_written}
use Rattle.cases.specs.Cases.{on_first}

-- the cells of pair(a,a)
abbrev pub cells : List ℕ
cells =
    1 ∷ 65535 ∷ 65535 ∷ 65535 ∷ 65535 ∷ 0 ∷ 0 ∷ 0 ∷ 0 ∷ 0
    ∷ 0 ∷ 0 ∷ 0 ∷ 65535 ∷ 65535 ∷ 0 ∷ 0 ∷ 0 ∷ 0 ∷ 0
    ∷ []

-- set B and the table of pair(a,a)
abbrev pub B : Automaton
B = record {
  arities = 2 ∷ 0 ∷ 0 ∷ [];
  states = record { final = false; mask = 0 } ∷ record { final = false; mask = 0 } ∷ record { final = true; mask = 0 } ∷ [];
  tags = 0;
  rules = record { symbol = 0; children = 0 ∷ 1 ∷ []; target = 2; forget = 0 } ∷ record { symbol = 1; children = []; target = 0; forget = 0 } ∷ record { symbol = 1; children = []; target = 1; forget = 0 } ∷ [];
}

abbrev rows : List Row
rows = record { symbol = 1; kind = 0; payload = 0; children = [] } ∷ record { symbol = 0; kind = 0; payload = 0; children = 0 ∷ 0 ∷ [] } ∷ []

rows_are : decode_rows cells ≡ rows
unfolding cell_in
rows_are = refl

-- a rule of the pair's symbol asks the states 0 and 1
pair_states : (r : ℕ) → r < 3 → (rule_at B r).symbol ≡ 0 → (rule_at B r).children ≡ 0 ∷ 1 ∷ []
pair_states zero l e = refl
pair_states (suc zero) l e = let z : ⊥ = omega arith in absurd z
pair_states (suc (suc zero)) l e = let z : ⊥ = omega arith in absurd z
pair_states (suc (suc (suc r))) l e = let z : ⊥ = omega arith in absurd z

-- three numbers are not among two
not_three : (x y : ℕ) → (0 ≡ x) ⊎ (0 ≡ y) → (1 ≡ x) ⊎ (1 ≡ y) → (2 ≡ x) ⊎ (2 ≡ y) → ⊥
not_three x y (inl a) (inl b) c = omega arith
not_three x y (inl a) (inr b) (inl c) = omega arith
not_three x y (inl a) (inr b) (inr c) = omega arith
not_three x y (inr a) (inl b) (inl c) = omega arith
not_three x y (inr a) (inl b) (inr c) = omega arith
not_three x y (inr a) (inr b) c = omega arith

-- of three steps the first two are on row 0
counted : (run : List Step) → length run ≡ 3 → (step_at run 0).row ≡ 0 → (step_at run 1).row ≡ 0 → (step_at run 2).row ≡ 1 → on_first run ≡ 2
counted [] e a b c = let z : ⊥ = omega arith in absurd z
counted (s ∷ []) e a b c = let z : ⊥ = omega arith in absurd z
counted (s ∷ t ∷ []) e a b c = let z : ⊥ = omega arith in absurd z
counted (s ∷ t ∷ u ∷ []) e a b c = λ x. cond (eqb (a x) 0) 1 0 + (cond (eqb (b x) 0) 1 0 + (cond (eqb (c x) 0) 1 0 + 0))
counted (s ∷ t ∷ u ∷ v ∷ run) e a b c = let z : ⊥ = omega arith in absurd z

module _ (run : List Step) (w : WrittenRun B rows run) where
  abbrev row : ℕ → ℕ
  row i = (step_at run i).row

  abbrev steps : ℕ → List ℕ
  steps i = (step_at run i).steps

  -- child rows are row 0, and only row 1 has any
  child_first : (i k : ℕ) → i < 2 → k < length (row_at rows i).children → (get_or (row_at rows i).children k 0 ≡ 0) × (i ≡ 1) × (k < 2)
  child_first zero k l m = let z : ⊥ = omega arith in absurd z
  child_first (suc zero) zero l m = (refl, refl, omega arith)
  child_first (suc zero) (suc zero) l m = (refl, refl, omega arith)
  child_first (suc zero) (suc (suc k)) l m = let z : ⊥ = omega arith in absurd z
  child_first (suc (suc i)) k l m = let z : ⊥ = omega arith in absurd z

  -- what uses a step, and at which place
  user : (i : ℕ) → suc i < length run → (row i ≡ 0) × ((j : ℕ) × (j < length run) × (row j ≡ 1) × ((k : ℕ) × (k < 2) × (get_or (steps j) k 0 ≡ i)))
  user i l =
      let (j, lower, inside, member) = w.used i l in
      let (k, lk, e) = place_of_lem 0 member in
      let fit = w.each j inside in
      let many = fit.one_each in
      let (first, second, few) = child_first (row j) k fit.known_row (subst (λ n. k < n) many lk) in
      (sym (ap row e) ∙ fit.child_row k (subst (λ n. k < n) many lk) ∙ first, (j, inside, second, (k, few, e)))

  abbrev last : ℕ
  last = length run - 1

  last_row : row last ≡ 1
  last_row = w.last_row

  -- a step on row 1 is the last
  is_last : (j : ℕ) → j < length run → row j ≡ 1 → j ≡ last
  is_last j l e = go (dec_lt (suc j) (length run))
    where
      go : Dec (suc j < length run) → j ≡ last
      go (yes m) = let (first, more) = user j m in let z : ⊥ = omega arith in absurd z
      go (no m) = omega (arith, m)

  -- so the steps before the last are its two child steps
  among : (i : ℕ) → suc i < length run → (i ≡ get_or (steps last) 0 0) ⊎ (i ≡ get_or (steps last) 1 0)
  among i l =
      let (first, (j, inside, second, (k, few, e))) = user i l in
      which k few (subst (λ z. get_or (steps z) k 0 ≡ i) (is_last j inside second) e)
    where
      which : (k : ℕ) → k < 2 → get_or (steps last) k 0 ≡ i → (i ≡ get_or (steps last) 0 0) ⊎ (i ≡ get_or (steps last) 1 0)
      which zero l e = inl (sym e)
      which (suc zero) l e = inr (sym e)
      which (suc (suc k)) l e = let z : ⊥ = omega arith in absurd z

  -- the two are lower, and two, for their states differ
  children : (get_or (steps last) 0 0 < last) × (get_or (steps last) 1 0 < last) × (get_or (steps last) 0 0 ≡ get_or (steps last) 1 0 → ⊥)
  children =
      let some = w.some_step in
      let fit = w.each last (omega arith) in
      let place : (k : ℕ) → k < 2 → k < length (row_at rows (row last)).children = λ k l. subst (λ i. k < length (row_at rows i).children) (sym last_row) l in
      let asked = pair_states (step_at run last).rule fit.known_rule (fit.same_symbol ∙ ap (λ i. (row_at rows i).symbol) last_row) in
      let left = fit.child_state 0 (place 0 (omega arith)) ∙ ap (λ (l : List ℕ). get_or l 0 0) asked in
      let right = fit.child_state 1 (place 1 (omega arith)) ∙ ap (λ (l : List ℕ). get_or l 1 0) asked in
      (fit.lower 0 (place 0 (omega arith)), fit.lower 1 (place 1 (omega arith)), λ e. apart (sym left ∙ ap (λ i. (rule_of B run i).target) e ∙ right))
    where
      apart : ◌≡◌ {A = ℕ} 0 1 → ⊥
      apart e = omega arith

  three : length run ≡ 3
  three =
      let (a, b, differ) = children in
      let least : 3 ≤ length run = omega (arith, differ) in
      go least (dec_lt 3 (length run))
    where
      go : 3 ≤ length run → Dec (3 < length run) → length run ≡ 3
      go l (yes m) = absurd (not_three (get_or (steps last) 0 0) (get_or (steps last) 1 0) (among 0 (omega arith)) (among 1 (omega arith)) (among 2 (omega arith)))
      go l (no m) = omega (arith, m)

  pub two_steps : on_first run ≡ 2
  two_steps =
      let n = three in
      let end : last ≡ 2 = omega arith in
      counted run n (user 0 (omega arith)).0 (user 1 (omega arith)).0 (ap row (sym end) ∙ last_row)

-- of any bytes that stand for B
pub two_on_first : (set : List ℕ) → decode set ≡ B → (run : List ℕ) → check_run_of set cells run ≡ 0 → on_first (decode_steps run) ≡ 2
two_on_first set e run passes =
    two_steps (decode_steps run)
    (subst (λ (z : List Row). WrittenRun B z (decode_steps run)) rows_are
    (subst (λ (a : Automaton). WrittenRun a (decode_rows cells) (decode_steps run)) e (run_written set cells run passes)))
