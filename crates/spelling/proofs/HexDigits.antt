-- A hex digit worked out by a sum, without a choice (document 02, Wish 4). Assumes nothing.
use mathlib.Core.Path.{◌≡◌, refl, sym, ap, ◌∙◌}
use mathlib.Core.List.{List, [], ◌∷◌}
use Prim.Native.Nat.{ℕ, ◌+◌, ◌*◌, ◌/◌, ◌<◌}
use lib.ListN.{get_or}
use Rattle.model.specs.Lists.{tab}
use Rattle.model.proofs.Tab.{tab_at}
use Rattle.spelling.specs.Text.{hex_digit}

-- the digit, plus 48, plus 39 times the whole part of the digit divided by ten
abbrev pub digit_sum : ℕ → ℕ
digit_sum n = n + 48 + 39 * (n / 10)

-- computed over all digits from 0 to 15
computed : tab 16 digit_sum ≡ tab 16 hex_digit
unfolding hex_digit
computed = refl

-- for each of them this sum is its byte
pub hex_sum : (n : ℕ) → n < 16 → digit_sum n ≡ hex_digit n
hex_sum n h = sym (tab_at 0 16 digit_sum n h) ∙ ap (λ (bytes : List ℕ). get_or bytes n 0) computed ∙ tab_at 0 16 hex_digit n h

-- which bytes these are: 0123456789abcdef
pub hex_bytes : tab 16 hex_digit ≡ 48 ∷ 49 ∷ 50 ∷ 51 ∷ 52 ∷ 53 ∷ 54 ∷ 55 ∷ 56 ∷ 57 ∷ 97 ∷ 98 ∷ 99 ∷ 100 ∷ 101 ∷ 102 ∷ []
unfolding hex_digit
hex_bytes = refl
