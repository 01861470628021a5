-- One name list saved in two ways (document 02, Wish 5). Assumes nothing.
use Rattle.std.specs.Prelude.{◌≡◌, List, [], ◌∷◌, ◌++◌, Bool, true, false, ◌&&◌, ℕ, eqb}
use Rattle.names.specs.Lines.{newline, lines, blank?}

-- only spaces and bytes 13
abbrev pub blanks? : List ℕ → Bool
blanks? [] = true
blanks? (x ∷ xs) = blank? x && blanks? xs

-- Two lines that differ only in the spaces and bytes 13 at their ends.
pub record SameLine (l l' : List ℕ) : Type 0 where
  pub stem : List ℕ
  pub end : List ℕ
  pub end' : List ℕ
  pub first : l ≡ stem ++ end
  pub second : l' ≡ stem ++ end'
  pub blank : blanks? end ≡ true
  pub blank' : blanks? end' ≡ true

-- as many lines, and each with its like
abbrev pub SameLines : List (List ℕ) → List (List ℕ) → Type 0
SameLines [] [] = Unit {0}
SameLines [] (l' ∷ ls') = ⊥
SameLines (l ∷ ls) [] = ⊥
SameLines (l ∷ ls) (l' ∷ ls') = SameLine l l' × SameLines ls ls'

-- two lists that differ only in the spaces and bytes 13 at the ends of their lines
abbrev pub SavedAlike : List ℕ → List ℕ → Type 0
SavedAlike s s' = SameLines (lines s) (lines s')

-- a list with byte 13 put before each byte 10
unfoldable pub on_windows : List ℕ → List ℕ
on_windows [] = []
on_windows (x ∷ xs) = elim (eqb x newline) [ true ↦ 13 ∷ newline ∷ on_windows xs | false ↦ x ∷ on_windows xs ]
