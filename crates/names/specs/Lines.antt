-- The lines of a name list (document 01, section "Term text"; document 02, Wish 5). Assumes nothing.
use Rattle.std.specs.Prelude.{List, [], ◌∷◌, Bool, true, false, ◌||◌, cond, ℕ, eqb, length, get_or}

-- the byte that ends a line
abbrev pub newline : ℕ
newline = 10

-- the first line with one more byte in front; a line of its own where there is none
abbrev pub lengthen : ℕ → List (List ℕ) → List (List ℕ)
lengthen x [] = (x ∷ []) ∷ []
lengthen x (l ∷ ls) = (x ∷ l) ∷ ls

-- byte 10 ends a line; bytes after the last one are a line too
unfoldable pub lines : List ℕ → List (List ℕ)
lines [] = []
lines (x ∷ xs) = elim (eqb x newline) [ true ↦ [] ∷ lines xs | false ↦ lengthen x (lines xs) ]

-- a byte that is cut off at the end of a line: a space, or byte 13
unfoldable pub blank? : ℕ → Bool
blank? b = eqb b 32 || eqb b 13

-- one more byte in front of what is left of a line: kept, unless it is blank and nothing is left behind it
abbrev pub keep : ℕ → List ℕ → List ℕ
keep x [] = cond (blank? x) [] (x ∷ [])
keep x (y ∷ l) = x ∷ y ∷ l

-- a line without the spaces and bytes 13 at its end
unfoldable pub trimmed : List ℕ → List ℕ
trimmed [] = []
trimmed (x ∷ xs) = keep x (trimmed xs)

-- line i, trimmed, which is empty where there is none
unfoldable pub line_at : List ℕ → ℕ → List ℕ
line_at s i = trimmed (get_or (lines s) i [])

-- how many lines there are
unfoldable pub line_count : List ℕ → ℕ
line_count s = length (lines s)
