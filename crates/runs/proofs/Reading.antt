-- Steps read from lent cells, by index. Assumes nothing.
use mathlib.Core.Path.{◌≡◌, sym, ap, ◌∙◌}
use mathlib.Core.List.{List, []}
use Prim.Native.Nat.{ℕ, ◌+◌, ◌/◌, ◌<◌, ◌≤◌}
use native.Mathlib.Omega.{arith}
use borrow.Author.Rules.{rules}
use lib.ListN.{length}
use Rattle.model.specs.Limits.{max_children, unused}
use Rattle.model.specs.Written.{Step, step_at}
use Rattle.model.proofs.Tab.{tab_at, tab_past, length_tab}
use Rattle.runs.specs.Steps.{step_cells, cell_in, place_in, step_in, decode_steps}

-- what stands past the last step
abbrev pub no_step : Step
no_step = record { rule = 0; row = 0; steps = [] }

module _ (cells : List ℕ) where
  pub steps_length : length (decode_steps cells) ≡ length cells / step_cells
  steps_length = length_tab (length cells / step_cells) (step_in cells)

  pub count_is : (n : ℕ) → n ≡ length cells / step_cells → n ≡ length (decode_steps cells)
  count_is n e = e ∙ sym steps_length

  module _ (i : ℕ) where
    pub step_at_lem : i < length (decode_steps cells) → step_at (decode_steps cells) i ≡ step_in cells i
    step_at_lem l = tab_at no_step (length cells / step_cells) (step_in cells) i (rw steps_length at l)

    pub step_past : length (decode_steps cells) ≤ i → step_at (decode_steps cells) i ≡ no_step
    step_past l = tab_past no_step (length cells / step_cells) (step_in cells) i (rw steps_length at l)

    pub place_cell : (k x : ℕ) → k < max_children → x ≡ cell_in cells i (2 + k) → x ≡ place_in cells i k
    unfolding place_in
    place_cell k x h e = e ∙ sym (tab_at unused max_children (λ k. cell_in cells i (2 + k)) k h)

    pub place_past : (k : ℕ) → max_children ≤ k → unused ≡ place_in cells i k
    unfolding place_in
    place_past k h = sym (tab_past unused max_children (λ k. cell_in cells i (2 + k)) k h)

    -- a is the step's number and n how many there are, as they were read
    module _ (a n : ℕ) (e : a ≡ i) (m : n ≡ length (decode_steps cells)) where
      pub read_rule : (x : ℕ) → a < n → x ≡ cell_in cells i 0 → x ≡ (step_at (decode_steps cells) i).rule
      read_rule x l h = h ∙ sym (ap (λ (s : Step). s.rule) (step_at_lem (omega arith)))

      pub read_row : (x : ℕ) → a < n → x ≡ cell_in cells i 1 → x ≡ (step_at (decode_steps cells) i).row
      read_row x l h = h ∙ sym (ap (λ (s : Step). s.row) (step_at_lem (omega arith)))

      pub no_rule_lem : n ≤ a → 0 ≡ (step_at (decode_steps cells) i).rule
      no_rule_lem l = sym (ap (λ (s : Step). s.rule) (step_past (omega arith)))

      pub no_row : n ≤ a → 0 ≡ (step_at (decode_steps cells) i).row
      no_row l = sym (ap (λ (s : Step). s.row) (step_past (omega arith)))

pub ruleset reading = (count_is, read_rule, read_row, no_rule_lem, no_row, rules)
