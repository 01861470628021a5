-- Numbers at each edge of their forms, computed: which are counts, which rates, which neither, and where 71 stands. Assumes nothing.
use mathlib.Core.Path.{◌≡◌, refl}
use mathlib.Core.List.{List, [], ◌∷◌, map}
use mathlib.Core.Option.{Option, none, some}
use Prim.Native.Nat.{ℕ}
use Prim.Native.String.{String}
use Rattle.base.specs.Text.{Got, got, fault}
use Rattle.document.specs.Scalars.{kind_of, payload_of}
use Rattle.document.specs.declared.scalar.Scalar.{Scalar}
use Rattle.jsontext.specs.Number.{number_at, as_scalar}
use Rattle.jsonrows.proofs.Computing.{bytes, within}

-- the kind and the payload of a row with the number at the start of a text, none where it has no form (73), and the place after it
abbrev cells : Option Scalar → Option (ℕ × ℕ)
cells none = none
cells (some k) = some (kind_of k, payload_of k)

abbrev as_cells : Got (Option Scalar) → Got (Option (ℕ × ℕ))
as_cells (got k n) = got (cells k) n
as_cells (fault p) = fault p

abbrev read : List String → List (Got (Option (ℕ × ℕ)))
read ss = map (λ s. as_cells (as_scalar (number_at (bytes s) 0))) ss

-- whole numbers without sign, fraction or exponent: below 2^64 a count, of however many digits; a number is the longest one
counts : read ("0" ∷ "7" ∷ "10]" ∷ "1x" ∷ "1-" ∷ "9999999999999999" ∷ "18446744073709551615" ∷ "18446744073709551616" ∷ "100000000000000000000" ∷ [])
    ≡ got (some (2, 0)) 1 ∷ got (some (2, 7)) 1 ∷ got (some (2, 10)) 2 ∷ got (some (2, 1)) 1 ∷ got (some (2, 1)) 1 ∷ got (some (2, 9999999999999999)) 16 ∷ got (some (2, 18446744073709551615)) 20 ∷ got none 20 ∷ got none 21 ∷ []
unfolding within
counts = refl

-- rates, by their bits: 1.0, -1, 0.1, 0.3, -12.5, the two of 15 digits that are largest and smallest, and zero with either sign
rates : read ("1.0" ∷ "-1" ∷ "0.1" ∷ "0.3" ∷ "-12.5" ∷ "-999999999999999" ∷ "0.00000000000001" ∷ "0.0" ∷ "-0.0" ∷ "-0" ∷ [])
    ≡ got (some (3, 0x3FF0000000000000)) 3
    ∷ got (some (3, 0xBFF0000000000000)) 2
    ∷ got (some (3, 0x3FB999999999999A)) 3
    ∷ got (some (3, 0x3FD3333333333333)) 3
    ∷ got (some (3, 0xC029000000000000)) 5
    ∷ got (some (3, 0xC30C6BF52633FFF8)) 16
    ∷ got (some (3, 0x3D06849B86A12B9B)) 16
    ∷ got (some (3, 0)) 3
    ∷ got (some (3, 0)) 4
    ∷ got (some (3, 0)) 2
    ∷ []
unfolding within
rates = refl

-- no form: 16 digits, zeros counted, with a sign or a fraction; an exponent, of whatever letter and sign, also of a whole number
outside : read ("-1234567890123456" ∷ "0.000000000000001" ∷ "123456789012345.0" ∷ "1e5" ∷ "1E5" ∷ "1e+5" ∷ "1e-5" ∷ "0e0" ∷ "1.5e3" ∷ "1e5x" ∷ "1e5." ∷ []) ≡ map (got none) (17 ∷ 17 ∷ 17 ∷ 3 ∷ 3 ∷ 4 ∷ 4 ∷ 3 ∷ 5 ∷ 3 ∷ 3 ∷ [])
unfolding within
outside = refl

-- 71: no digit at first, after the sign, the point, the e or its sign; a digit after 0
faults : read ("+1" ∷ ".5" ∷ "-" ∷ "-x" ∷ "-.5" ∷ "1." ∷ "1.x" ∷ "1e" ∷ "1e+" ∷ "1.5E-x" ∷ "1.e5" ∷ "00" ∷ "01" ∷ "-09" ∷ []) ≡ map fault (0 ∷ 0 ∷ 1 ∷ 1 ∷ 1 ∷ 2 ∷ 2 ∷ 2 ∷ 3 ∷ 5 ∷ 2 ∷ 1 ∷ 1 ∷ 2 ∷ [])
unfolding within
faults = refl
