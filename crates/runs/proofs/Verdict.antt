-- What a passed test hands on to the next. Assumes nothing.
use mathlib.Core.Path.{◌≡◌, sym, ap, ◌∙◌}
use mathlib.Core.List.{List}
use mathlib.Core.Bool.{Bool, true, ◌&&◌}
use Prim.Native.Nat.{ℕ, ◌-◌, ◌/◌, ◌<◌, ◌≤◌}
use native.Mathlib.Omega.{arith}
use borrow.Author.Rules.{rules}
use mir.Syntax.{w16}
use mir.Val.{Fits}
use lib.Dec.{eqb}
use lib.ListN.{length}
use Rattle.model.specs.Lists.{all_below}
use Rattle.model.specs.Automaton.{final?}
use Rattle.model.specs.Written.{step_at, rule_of}
use Rattle.model.specs.WrittenTest.{known?, step_fits?, ends?}
use Rattle.model.proofs.Members.{T_true}
use Rattle.model.proofs.Below.{at}
use Rattle.automaton.specs.Stored.{decode}
use Rattle.document.specs.Rows.{row_cells, decode_rows}
use Rattle.document.specs.Check.{document_check_of}
use Rattle.document.proofs.Places.{rows_length}
use Rattle.runs.specs.Steps.{place_in, decode_steps}
use Rattle.runs.specs.Check.{counted?}
use Rattle.runs.specs.Passes.{Counted, Known, Ready}
use Rattle.runs.specs.Memories.{Fitted}
use Rattle.runs.proofs.Sound.{sound_set, sound_rows}
use Rattle.runs.proofs.Tested.{few_steps, fitted}

-- a run that passed 21 has few steps
module _ (run : List ℕ) (n : ℕ) (y : counted? run ≡ true) (m : n ≡ length (decode_steps run)) where
  pub counted : Counted (decode_steps run) n
  counted = let (some, few) = few_steps run ((T_true (counted? run)).1 y) in record { steps = m; some = rw m some; few = rw m few }

  pub count_fits : Fits w16 n
  count_fits = let c = counted.few in record { fits = omega arith }

module _ (set doc run : List ℕ) (n : ℕ) (h : Ready set doc run n) where
  pub ready_known : (i : ℕ) → i < n → Known set doc run i
  ready_known i l = record { sound = h.sound; known = at (known? (decode set) (decode_rows doc) (decode_steps run)) n i h.known l }

  pub some_rows : (m : ℕ) → m ≡ length doc / row_cells → 1 ≤ m
  some_rows m e = let s = (sound_rows set doc h.sound).some_row in let w = rows_length doc in omega arith

  -- 25, from the last step's row o and state q
  pub ends_are : (o s m q : ℕ) (b : Bool) → o ≡ (step_at (decode_steps run) (n - 1)).row → s ≡ o → m ≡ length doc / row_cells → q ≡ (rule_of (decode set) (decode_steps run) (n - 1)).target → b ≡ final? (decode set) q
      → (eqb s (m - 1) && b) ≡ ends? (decode set) (decode_rows doc) (decode_steps run)
  ends_are o s m q b eo es em eq eb =
      let last : n - 1 ≡ length (decode_steps run) - 1 = ap (λ (k : ℕ). k - 1) h.counted.steps in
      let es' : s ≡ (step_at (decode_steps run) (length (decode_steps run) - 1)).row = es ∙ eo ∙ ap (λ (k : ℕ). (step_at (decode_steps run) k).row) last in
      let em' : m - 1 ≡ length (decode_rows doc) - 1 = ap (λ (k : ℕ). k - 1) (em ∙ sym (rows_length doc)) in
      let eb' : b ≡ final? (decode set) (rule_of (decode set) (decode_steps run) (length (decode_steps run) - 1)).target =
      eb ∙ ap (final? (decode set)) (eq ∙ ap (λ (k : ℕ). (rule_of (decode set) (decode_steps run) k).target) last) in
      λ j. eqb (es' j) (em' j) && eb' j

-- and one that passed 22 has known rules and rows
module _ (set doc run : List ℕ) (n : ℕ) (s : document_check_of set doc ≡ 0) (y : counted? run ≡ true) (m : n ≡ length (decode_steps run)) where
  pub ready : all_below n (known? (decode set) (decode_rows doc) (decode_steps run)) ≡ true → Ready set doc run n
  ready k = record { sound = s; counted = counted run n y m; known = k }

  -- and one that passed 23 has steps that fit
  pub fitting : all_below (length (decode_steps run)) (known? (decode set) (decode_rows doc) (decode_steps run)) ≡ true → all_below (length (decode_steps run)) (step_fits? (decode set) (decode_rows doc) (decode_steps run) (place_in run)) ≡ true → Fitted (decode set) (decode_steps run) n
  fitting k t =
      let few = (counted run n y m).few in
      fitted (decode set) (decode_rows doc) run (sound_set set doc s) (sound_rows set doc s) (omega arith)
      ((T_true (all_below (length (decode_steps run)) (known? (decode set) (decode_rows doc) (decode_steps run)))).1 k)
      ((T_true (all_below (length (decode_steps run)) (step_fits? (decode set) (decode_rows doc) (decode_steps run) (place_in run)))).1 t) n m

pub ruleset readies = (ready_known, some_rows, ends_are, rules)
