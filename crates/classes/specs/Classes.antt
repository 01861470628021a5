-- The classes of a byte, and the table of the answers (document 02, Wish 8). Assumes nothing.
use Rattle.std.specs.Prelude.{Bool, false, ◌&&◌, ◌||◌, cond, List, [], ◌∷◌, ℕ, ◌+◌, ◌*◌, eqb, leb, ltb, get_or}
use Rattle.model.specs.Lists.{any, tab}

-- a to z
unfoldable pub letter? : ℕ → Bool
letter? b = leb 97 b && leb b 122

-- 0 to 9
unfoldable pub digit? : ℕ → Bool
digit? b = leb 48 b && leb b 57

-- 0 to 9, a to f, A to F
unfoldable pub either_hex_digit? : ℕ → Bool
either_hex_digit? b = digit? b || ((leb 97 b && leb b 102) || (leb 65 b && leb b 70))

-- tab, newline, return, space
unfoldable pub space? : ℕ → Bool
space? b = any (eqb b) (9 ∷ 10 ∷ 13 ∷ 32 ∷ [])

-- { } [ ] ( ) , :
unfoldable pub mark? : ℕ → Bool
mark? b = any (eqb b) (123 ∷ 125 ∷ 91 ∷ 93 ∷ 40 ∷ 41 ∷ 44 ∷ 58 ∷ [])

-- below 32
unfoldable pub control? : ℕ → Bool
control? b = ltb b 32

-- the six classes, in the order of their bits
abbrev pub six_classes : List (ℕ → Bool)
six_classes = letter? ∷ digit? ∷ either_hex_digit? ∷ space? ∷ mark? ∷ control? ∷ []

-- byte b is in class k
abbrev pub in_class? : ℕ → ℕ → Bool
in_class? k = get_or six_classes k (λ _. false)

-- the number whose bit k is what test k says of a byte
abbrev pub answers : List (ℕ → Bool) → ℕ → ℕ
answers [] b = 0
answers (p ∷ ps) b = answers ps b * 2 + cond (p b) 1 0

-- the table: for each byte what the six classes say of it
unfoldable pub class_table : List ℕ
class_table = tab 256 (answers six_classes)
