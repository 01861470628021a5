-- The bytes of each class, computed over every byte. Assumes nothing.
use mathlib.Core.Path.{◌≡◌, refl}
use mathlib.Core.Bool.{Bool}
use mathlib.Core.List.{List, [], ◌∷◌}
use Prim.Native.Nat.{ℕ}
use Rattle.model.specs.Lists.{concat_map, only, tab}
use Rattle.classes.specs.Classes.{letter?, digit?, either_hex_digit?, space?, mark?, control?, in_class?}

-- the bytes that pass a test, in order
abbrev pub bytes_with : (ℕ → Bool) → List ℕ
bytes_with p = concat_map (λ b. only (p b) (b ∷ [])) (tab 256 (λ b. b))

-- abcdefghijklmnopqrstuvwxyz, 0123456789, 0123456789ABCDEFabcdef, four spaces, (),:[]{}, and 0 to 31
pub members : tab 6 (λ k. bytes_with (in_class? k))
    ≡ (97 ∷ 98 ∷ 99 ∷ 100 ∷ 101 ∷ 102 ∷ 103 ∷ 104 ∷ 105 ∷ 106 ∷ 107 ∷ 108 ∷ 109 ∷ 110 ∷ 111 ∷ 112 ∷ 113 ∷ 114 ∷ 115 ∷ 116 ∷ 117 ∷ 118 ∷ 119 ∷ 120 ∷ 121 ∷ 122 ∷ [])
    ∷ (48 ∷ 49 ∷ 50 ∷ 51 ∷ 52 ∷ 53 ∷ 54 ∷ 55 ∷ 56 ∷ 57 ∷ [])
    ∷ (48 ∷ 49 ∷ 50 ∷ 51 ∷ 52 ∷ 53 ∷ 54 ∷ 55 ∷ 56 ∷ 57 ∷ 65 ∷ 66 ∷ 67 ∷ 68 ∷ 69 ∷ 70 ∷ 97 ∷ 98 ∷ 99 ∷ 100 ∷ 101 ∷ 102 ∷ [])
    ∷ (9 ∷ 10 ∷ 13 ∷ 32 ∷ [])
    ∷ (40 ∷ 41 ∷ 44 ∷ 58 ∷ 91 ∷ 93 ∷ 123 ∷ 125 ∷ [])
    ∷ (0 ∷ 1 ∷ 2 ∷ 3 ∷ 4 ∷ 5 ∷ 6 ∷ 7 ∷ 8 ∷ 9 ∷ 10 ∷ 11 ∷ 12 ∷ 13 ∷ 14 ∷ 15 ∷ 16 ∷ 17 ∷ 18 ∷ 19 ∷ 20 ∷ 21 ∷ 22 ∷ 23 ∷ 24 ∷ 25 ∷ 26 ∷ 27 ∷ 28 ∷ 29 ∷ 30 ∷ 31 ∷ [])
    ∷ []
unfolding letter? digit? either_hex_digit? space? mark? control?
members = refl
