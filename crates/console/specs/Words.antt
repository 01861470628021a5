-- The lines that the programs print, as bytes (document 01, section "Examples, with the edges"). Assumes nothing.
use Rattle.std.specs.Prelude.{List, [], ◌∷◌, ◌++◌, Bool, ◌&&◌, cond, ℕ, leb}
use Rattle.names.specs.Names.{decimal}

-- `alive `, `refused ` and ` at `, each before a number
abbrev pub alive_word : List ℕ
alive_word = 97 ∷ 108 ∷ 105 ∷ 118 ∷ 101 ∷ 32 ∷ []

abbrev pub refused_word : List ℕ
refused_word = 114 ∷ 101 ∷ 102 ∷ 117 ∷ 115 ∷ 101 ∷ 100 ∷ 32 ∷ []

abbrev pub at_word : List ℕ
at_word = 32 ∷ 97 ∷ 116 ∷ 32 ∷ []

-- a word and a number in decimal
unfoldable pub numbered : List ℕ → ℕ → List ℕ
numbered word n = word ++ decimal n

-- some bytes and the end of their line
unfoldable pub line_of : List ℕ → List ℕ
line_of bytes = bytes ++ 10 ∷ []

-- `dead`, `yes` and `no`, each with its line's end
abbrev pub dead_line : List ℕ
dead_line = 100 ∷ 101 ∷ 97 ∷ 100 ∷ 10 ∷ []

abbrev pub yes_line : List ℕ
yes_line = 121 ∷ 101 ∷ 115 ∷ 10 ∷ []

abbrev pub no_line : List ℕ
no_line = 110 ∷ 111 ∷ 10 ∷ []

-- `refused N`
abbrev pub refused_line : ℕ → List ℕ
refused_line n = line_of (numbered refused_word n)

-- `refused N at P`
abbrev pub refused_at_line : ℕ → ℕ → List ℕ
refused_at_line n p = line_of (numbered refused_word n ++ numbered at_word p)

-- the numbers 63 to 67 have a place
unfoldable pub placed? : ℕ → Bool
placed? n = leb 63 n && leb n 67

-- a refusal with its place, where the number has one
unfoldable pub refusal_line : ℕ → ℕ → List ℕ
refusal_line n p = cond (placed? n) (refused_at_line n p) (refused_line n)

-- `alive H`, and the text in a line of its own
abbrev pub alive_lines : ℕ → List ℕ → List ℕ
alive_lines h text = line_of (numbered alive_word h) ++ line_of text
