-- 26: the numbers in the places of a step; and each step but the last is marked exactly where each step but the last is used. Assumes nothing.
use mathlib.Core.Path.{◌≡◌, sym, ap, ◌∙◌}
use mathlib.Core.List.{List}
use mathlib.Core.Bool.{Bool, false}
use Prim.Native.Nat.{ℕ, ◌-◌, ◌≤◌}
use native.Mathlib.Omega.{arith}
use lib.ListN.{length, get_or}
use Rattle.model.specs.Limits.{max_steps}
use Rattle.model.specs.Lists.{all_below, any_below, uses?}
use Rattle.model.specs.Written.{Step, step_at}
use Rattle.model.specs.WrittenTest.{used?}
use Rattle.document.proofs.Marking.{MarkedBelow, all_marked}
use Rattle.runs.specs.Steps.{places_in, decode_steps}
use Rattle.runs.specs.Passes.{Counted}
use Rattle.runs.proofs.Reading.{step_at_lem}

pub steps_marked : (cells : List ℕ) (n : ℕ) (marks : List Bool) (j k : ℕ) (r : Bool) → Counted (decode_steps cells) n → MarkedBelow (places_in cells) n max_steps marks j → n ≤ j → k ≡ n - 1 → r ≡ all_below k (λ i. get_or marks i false) → r ≡ all_below (length (decode_steps cells) - 1) (used? (decode_steps cells))
steps_marked cells n marks j k r c h last f q =
    all_marked (places_in cells) n max_steps marks j h (λ i. (step_at (decode_steps cells) i).steps) k r c.few
    (λ i l. ap (λ (s : Step). s.steps) (sym (step_at_lem cells i (omega (arith, c.steps))))) last f q
    ∙ ap (λ (z : ℕ). all_below (z - 1) (λ i. any_below z (λ j. uses? j (step_at (decode_steps cells) j).steps i))) c.steps
