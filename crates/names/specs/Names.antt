-- Names, and the one shown for each symbol (document 01, section "Term text"). Assumes nothing.
use Rattle.std.specs.Prelude.{List, [], ◌∷◌, ◌++◌, Bool, true, false, ◌&&◌, ◌||◌, cond, ℕ, zero, suc, ◌+◌, ◌/◌, ◌%◌, ltb, leb, length, get_or}
use Rattle.std.proofs.Math.Option.{Option, none, some}
use Rattle.model.specs.Lists.{all_below, eq_list, or_else}
unfoldable pub use Rattle.classes.specs.Classes.{letter?, digit?}
use Rattle.names.specs.Lines.{line_at}

-- a byte that may stand in a name
unfoldable pub name_byte? : ℕ → Bool
name_byte? b = letter? b || digit? b

-- the most bytes of a name
abbrev pub max_name : ℕ
max_name = 16

-- 1 to 16 bytes, a letter, then letters or digits
unfoldable pub name? : List ℕ → Bool
name? s =
    ltb 0 (length s) && (leb (length s) max_name && (letter? (get_or s 0 0) && all_below (length s) (λ k. name_byte? (get_or s k 0))))

-- the first of two lists of bytes, unless it is empty
abbrev pub unless_empty : List ℕ → List ℕ → List ℕ
unless_empty [] o = o
unless_empty (x ∷ xs) o = x ∷ xs

-- the part of the site's list, else the part of the built-in list; empty where neither has a name
unfoldable pub name_of : List ℕ → List ℕ → ℕ → List ℕ
name_of site built_in i = unless_empty (line_at site i) (line_at built_in i)

-- the decimal digits of n, of which there are at most the first number
unfoldable pub digits : ℕ → ℕ → List ℕ
digits zero n = []
digits (suc f) n = elim (ltb n 10) [ true ↦ (48 + n) ∷ [] | false ↦ digits f (n / 10) ++ (48 + n % 10) ∷ [] ]

-- a number in decimal, without leading zeros
abbrev pub decimal : ℕ → List ℕ
decimal n = digits (suc n) n

-- the name of a symbol that the lists do not name: `s` and the number
unfoldable pub default_name : ℕ → List ℕ
default_name i = 115 ∷ decimal i

-- the name shown for symbol i
unfoldable pub shown_name : List ℕ → List ℕ → ℕ → List ℕ
shown_name site built_in i = unless_empty (name_of site built_in i) (default_name i)

-- the first index below n that passes the test
unfoldable pub first_below : ℕ → (ℕ → Bool) → Option ℕ
first_below zero p = none
first_below (suc n) p = or_else (first_below n p) (cond (p n) (some n) none)

-- the first of n symbols that has these bytes for a name
unfoldable pub find_in : ℕ → (ℕ → List ℕ) → List ℕ → Option ℕ
find_in n names bytes = first_below n (λ i. eq_list (names i) bytes)

-- the first symbol that is shown by these bytes
abbrev pub find_name : ℕ → List ℕ → List ℕ → List ℕ → Option ℕ
find_name symbols site built_in bytes = find_in symbols (shown_name site built_in) bytes
