-- Bytes of a text by place, and what stands at a place. Assumes nothing.
use Rattle.std.specs.Prelude.{List, Bool, true, false, cond, ℕ, zero, suc, ◌+◌, eqb, length, get_or}

-- the byte at i; past the end 0, which no rule allows
abbrev pub byte_at : List ℕ → ℕ → ℕ
byte_at t i = get_or t i 0

-- what stands at a place: a value and the place after it, or the place of the byte that no rule allows
pub data Got (A : Type 0) : Type 0 where
  got : A → ℕ → Got A
  fault : ℕ → Got A

-- how many of the tests p 0, p 1, .. pass before one fails, at most n
unfoldable pub leading : ℕ → (ℕ → Bool) → ℕ
leading zero p = 0
leading (suc n) p = elim (p 0) [ true ↦ suc (leading n (λ k. p (suc k))) | false ↦ 0 ]

-- how many bytes of the word w stand at i
unfoldable pub word_bytes : List ℕ → List ℕ → ℕ → ℕ
word_bytes w t i = leading (length w) (λ k. eqb (byte_at t (i + k)) (get_or w k 0))

-- the word w at i, which says v; a fault at the first byte that differs
unfoldable pub word_at : {A : Type 0} → A → List ℕ → List ℕ → ℕ → Got A
word_at v w t i = cond (eqb (word_bytes w t i) (length w)) (got v (i + word_bytes w t i)) (fault (i + word_bytes w t i))
