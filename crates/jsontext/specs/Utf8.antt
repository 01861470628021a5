-- UTF-8: the well-formed byte sequences of the Unicode standard, table 3-7, and the bytes of a code point. Assumes nothing.
use Rattle.std.specs.Prelude.{List, [], ◌∷◌, Bool, true, false, ◌&&◌, cond, ℕ, ◌+◌, ◌/◌, ◌%◌, leb, ltb}
use Rattle.base.specs.Text.{byte_at}

-- a byte from lo to hi
abbrev pub between : ℕ → ℕ → ℕ → Bool
between lo hi b = leb lo b && leb b hi

-- a stretch of bytes: up to a place, or broken at the first byte that does not belong to it
pub data Stretch : Type 0 where
  up_to : ℕ → Stretch
  broken_at : ℕ → Stretch

-- a row of the table: what its first byte is, and each that follows
pub record Sequence : Type 0 where
  pub lead : ℕ → Bool
  pub more : List (ℕ → Bool)

abbrev pub sequence : (ℕ → Bool) → List (ℕ → Bool) → Sequence
sequence p ps = record { lead = p; more = ps }

-- 80 to BF
abbrev pub tail : ℕ → Bool
tail = between 128 191

-- the rows of the table but the first, which is a byte up to 7F
abbrev pub sequences : List Sequence
sequences =
    sequence (between 194 223) (tail ∷ [])
    ∷ sequence (between 224 224) (between 160 191 ∷ tail ∷ [])
    ∷ sequence (between 225 236) (tail ∷ tail ∷ [])
    ∷ sequence (between 237 237) (between 128 159 ∷ tail ∷ [])
    ∷ sequence (between 238 239) (tail ∷ tail ∷ [])
    ∷ sequence (between 240 240) (between 144 191 ∷ tail ∷ tail ∷ [])
    ∷ sequence (between 241 243) (tail ∷ tail ∷ tail ∷ [])
    ∷ sequence (between 244 244) (between 128 143 ∷ tail ∷ tail ∷ [])
    ∷ []

-- bytes at i that pass the tests in turn
unfoldable pub pass_at : List (ℕ → Bool) → List ℕ → ℕ → Stretch
pass_at [] t i = up_to i
pass_at (p ∷ ps) t i = elim (p (byte_at t i)) [ true ↦ pass_at ps t (i + 1) | false ↦ broken_at i ]

-- the row of the first of these that the byte at i begins
unfoldable pub sequence_in : List Sequence → List ℕ → ℕ → Stretch
unfolding pass_at
sequence_in [] t i = broken_at i
sequence_in (s ∷ ss) t i = elim (s.lead (byte_at t i)) [ true ↦ pass_at s.more t (i + 1) | false ↦ sequence_in ss t i ]

-- the well-formed sequence of two bytes or more at i
unfoldable pub sequence_at : List ℕ → ℕ → Stretch
unfolding sequence_in
sequence_at t i = sequence_in sequences t i

-- the bytes of a code point (below 2^21, so that the last remainder changes nothing)
unfoldable pub utf8 : ℕ → List ℕ
utf8 c =
    cond (ltb c 128) (c ∷ [])
    (cond (ltb c 2048) ((192 + c / 64) ∷ (128 + c % 64) ∷ [])
    (cond (ltb c 65536) ((224 + c / 4096) ∷ (128 + c / 64 % 64) ∷ (128 + c % 64) ∷ [])
    ((240 + c / 262144 % 8) ∷ (128 + c / 4096 % 64) ∷ (128 + c / 64 % 64) ∷ (128 + c % 64) ∷ [])))
