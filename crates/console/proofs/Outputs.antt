-- From a line to what a program prints: the length of the input, and the set and the text in it. Assumes nothing.
use mathlib.Core.Path.{◌≡◌, sym, ap, ◌∙◌}
use mathlib.Core.List.{List, [], ◌∷◌}
use Prim.Native.Nat.{ℕ, zero, suc, ◌*◌, ◌-◌, ◌<◌, ◌≤◌, min}
use native.Mathlib.Nat.{zero-min, min-zero, suc-min-suc}
use native.Mathlib.Omega.{arith}
use borrow.Author.Tests.{le-leb, lt-leb}
use lib.ListN.{length, take, drop, length-append, length-drop}
use lib.Seq.{take_all}
use Rattle.model.specs.Limits.{max_states}
use Rattle.model.specs.Refusal.{unless}
use Rattle.model.specs.Witness.{witness}
use Rattle.automaton.specs.Stored.{decode, stated_total}
use Rattle.document.specs.Rows.{row_cells}
use Rattle.emptiness.specs.Answer.{witness_check_of}
use Rattle.console.specs.Words.{refused_line}
use Rattle.console.specs.Output.{Printed, max_input, within_input, sample_lines, sample_output, judged_line, judge_output}
use Rattle.console.proofs.Answers.{named}

-- what is printed is so much of the space
printed_long : (bytes d new : List ℕ) (k : ℕ) → Printed bytes d new k → k ≤ length new
printed_long bytes d new k p =
    let e = length-append bytes (drop (length bytes) d) in
    let n = ap length p.space in
    omega (arith, p.count)

-- an output, and that it is so much of the space
module _ (input d new : List ℕ) (k : ℕ) where
  within : (bytes : List ℕ) → length input ≤ max_input → Printed bytes d new k → Printed (within_input input bytes) d new k × (k ≤ length new)
  within bytes l p = (named bytes (within_input input bytes) d new k (sym (rw (le-leb (length input) max_input l))) p, printed_long bytes d new k p)

  beyond : (bytes : List ℕ) → max_input < length input → Printed (refused_line 69) d new k → Printed (within_input input bytes) d new k × (k ≤ length new)
  beyond bytes l p = (named (refused_line 69) (within_input input bytes) d new k (sym (rw (lt-leb (length input) max_input l))) p, printed_long (refused_line 69) d new k p)

  pub sample_within : length input ≤ max_input → Printed (sample_lines input (unless (witness_check_of input (max_states * row_cells)) (witness (decode input)))) d new k → Printed (sample_output input) d new k × (k ≤ length new)
  unfolding sample_output
  sample_within = within (sample_lines input (unless (witness_check_of input (max_states * row_cells)) (witness (decode input))))

  pub sample_beyond : max_input < length input → Printed (refused_line 69) d new k → Printed (sample_output input) d new k × (k ≤ length new)
  unfolding sample_output
  sample_beyond = beyond (sample_lines input (unless (witness_check_of input (max_states * row_cells)) (witness (decode input))))

  pub judge_beyond : max_input < length input → Printed (refused_line 69) d new k → Printed (judge_output input) d new k × (k ≤ length new)
  unfolding judge_output
  judge_beyond = beyond (judged_line (take (stated_total input) input) (drop (stated_total input) input))

-- a front and a rest past the end
take_min : (n : ℕ) (l : List ℕ) → take (min n (length l)) l ≡ take n l
take_min zero l = ap (λ k. take k l) (zero-min (length l))
take_min (suc n) [] = ap (λ k. take k []) (min-zero (suc n))
take_min (suc n) (x ∷ xs) = ap (λ k. take k (x ∷ xs)) (suc-min-suc n (length xs)) ∙ ap (λ l. x ∷ l) (take_min n xs)

drop_min : (n : ℕ) (l : List ℕ) → drop (min n (length l)) l ≡ drop n l
drop_min zero l = ap (λ k. drop k l) (zero-min (length l))
drop_min (suc n) [] = ap (λ k. drop k []) (min-zero (suc n))
drop_min (suc n) (x ∷ xs) = ap (λ k. drop k (x ∷ xs)) (suc-min-suc n (length xs)) ∙ drop_min n xs

-- the set up to the total, and the text behind it
pub judge_within : (input d new : List ℕ) (k t n : ℕ) → length input ≤ max_input → n ≡ stated_total input → t ≡ min n (length input) → Printed (judged_line (take t input) (take (length input - t) (drop t input))) d new k → Printed (judge_output input) d new k × (k ≤ length new)
unfolding judge_output
judge_within input d new k t n l e q p =
    let m : t ≡ min (stated_total input) (length input) = q ∙ ap (λ j. min j (length input)) e in
    let x : take t input ≡ take (stated_total input) input = ap (λ j. take j input) m ∙ take_min (stated_total input) input in
    let f = length-drop t input in
    let y : take (length input - t) (drop t input) ≡ drop (stated_total input) input = take_all (length input - t) (drop t input) (omega arith) ∙ ap (λ j. drop j input) m ∙ drop_min (stated_total input) input in
    within input d new k (judged_line (take (stated_total input) input) (drop (stated_total input) input)) l
    (named (judged_line (take t input) (take (length input - t) (drop t input))) (judged_line (take (stated_total input) input) (drop (stated_total input) input)) d new k (λ i. judged_line (x i) (y i)) p)
