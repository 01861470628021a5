-- A text with its zeros made one (document 02, Wish 6). No contract names this; theorems say that a text is read as this one is. Assumes nothing.
use Rattle.std.specs.Prelude.{List, ◌∷◌, Bool, false, cond, ℕ, zero, suc, eqb, length, replicate}
use Rattle.model.specs.Lists.{tab}
use Rattle.term.specs.Scan.{byte_at, word_bytes}

-- `~8000000000000000`
abbrev pub minus_zero_text : List ℕ
minus_zero_text = 126 ∷ 56 ∷ replicate 15 48

-- the 8 of such a text stands at i
unfoldable pub sign_digit? : List ℕ → ℕ → Bool
sign_digit? t zero = false
sign_digit? t (suc i) = eqb (word_bytes minus_zero_text t i) (length minus_zero_text)

-- each `~8000000000000000` becomes `~0000000000000000`
unfoldable pub zeros_one : List ℕ → List ℕ
zeros_one t = tab (length t) (λ i. cond (sign_digit? t i) 48 (byte_at t i))
