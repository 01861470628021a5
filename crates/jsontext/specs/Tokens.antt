-- A short string that is known beforehand, its quotes included, as the numbers that a text is compared with. Assumes nothing.
use Rattle.std.specs.Prelude.{◌≡◌, List, [], ◌∷◌, ◌++◌, ℕ, ◌+◌, ◌-◌, ◌*◌, ◌^◌, ◌<◌, ◌≤◌, length, take, drop}
use Rattle.jsontext.specs.Decoded.{join_bytes}
use Rattle.jsontext.specs.StringAnswers.{Plains}

-- bytes between quotes
abbrev pub quoted : List ℕ → List ℕ
quoted key = 34 ∷ key ++ 34 ∷ []

-- The numbers of a string of n bytes, its quotes included: fewer than eight in the highest places of the first number; else the first eight in it, and the last eight in the other.
pub record TokenOf (key : List ℕ) (first last n : ℕ) : Type 0 where
  pub plain : Plains key 0 (length key)
  pub count : n ≡ length key + 2
  pub few : n ≤ 16
  pub short : n < 8 → first ≡ join_bytes (quoted key) * 2 ^ (64 - 8 * n)
  pub front : 8 ≤ n → first ≡ join_bytes (take 8 (quoted key))
  pub back : 8 ≤ n → last ≡ join_bytes (take 8 (drop (n - 8) (quoted key)))
