-- Where the refusals of a text stand, and which counts of two, computed: 71, 73 and 64. Assumes nothing.
use mathlib.Core.Path.{◌≡◌, refl}
use mathlib.Core.Bool.{Bool, false, not, ◌&&◌}
use mathlib.Core.List.{List, [], ◌∷◌, ◌++◌, map}
use Prim.Native.Nat.{ℕ}
use Prim.Native.String.{String}
use lib.Dec.{eqb}
use lib.ListN.{length, replicate}
use Rattle.model.specs.Lists.{concat_map}
use Rattle.model.specs.Table.{Row}
use Rattle.classes.proofs.Members.{bytes_with}
use Rattle.jsonrows.specs.Read.{Reading, rows_read, refused_at, reading_map}
use Rattle.jsonrows.proofs.Computing.{bytes, within, answered}

-- 71 at the first byte with no legal continuation, or at the end: no value; words; arrays; objects; behind the value; a byte order mark
faults : map (λ s. answered [] (bytes s) 10240)
    ("" ∷ " " ∷ "x" ∷ "+1" ∷ ".5" ∷ "]" ∷ "}" ∷ "tru" ∷ "truE" ∷ "True" ∷ "nul" ∷ "nulL" ∷ "fals" ∷ "falsE" ∷ "truee" ∷ "[" ∷ "[1" ∷ "[1 2]" ∷ "[1," ∷ "[1,]" ∷ "[,1]" ∷ "[1}" ∷ "{" ∷ "{1}" ∷ "{,}" ∷ "{\"a" ∷ "{\"a\"" ∷ "{\"a\" 1}" ∷ "{\"a\":}"
    ∷ "{\"a\":1" ∷ "{\"a\":1]" ∷ "{\"a\":1,}" ∷ "{\"a\":1 \"b\":2}" ∷ "1 2" ∷ "[] x" ∷ "{}}" ∷ "\"a\"\"" ∷ [])
    ++ answered [] (239 ∷ 187 ∷ 191 ∷ 55 ∷ []) 10240 ∷ []
    ≡ map (refused_at 71) (0 ∷ 1 ∷ 0 ∷ 0 ∷ 0 ∷ 0 ∷ 0 ∷ 3 ∷ 3 ∷ 0 ∷ 3 ∷ 3 ∷ 4 ∷ 4 ∷ 4 ∷ 1 ∷ 2 ∷ 3 ∷ 3 ∷ 3 ∷ 1 ∷ 2 ∷ 1 ∷ 1 ∷ 1 ∷ 3 ∷ 4 ∷ 5 ∷ 5 ∷ 6 ∷ 6 ∷ 7 ∷ 7 ∷ 2 ∷ 3 ∷ 2 ∷ 3 ∷ 0 ∷ [])
unfolding answered
faults = refl

-- a number is the longest one, and 73 stands at its first byte, whatever follows; a digit after 0 is 71, before 67; the leftmost place counts
numbers : answered [] (bytes "1x") 0 ∷ answered [] (bytes "01") 0 ∷ map (λ s. answered [] (bytes s) 10240) ("1x" ∷ "01" ∷ "[1e5x" ∷ "[1e5" ∷ "[1e+" ∷ "[7,-1e5,x" ∷ "[x,1e5" ∷ "{\"a\":1e5,\"a\"" ∷ [])
    ≡ refused_at 67 0 ∷ refused_at 71 1 ∷ refused_at 71 1 ∷ refused_at 71 1 ∷ refused_at 73 1 ∷ refused_at 73 1 ∷ refused_at 71 4 ∷ refused_at 73 3 ∷ refused_at 71 1 ∷ refused_at 73 5 ∷ []
unfolding answered
numbers = refl

-- 256 levels: arrays in arrays, elements one behind the other, a member with a listed key and with another; what follows the first byte is not looked at
deepest : map (λ t. answered (97 ∷ []) t 10240)
    ((replicate 256 91 ++ replicate 256 93)
    ∷ (replicate 257 91 ++ replicate 257 93)
    ∷ (replicate 256 91 ++ bytes "tru")
    ∷ (91 ∷ concat_map (λ b. b ∷ 44 ∷ []) (replicate 254 55) ++ bytes "7]")
    ∷ (91 ∷ concat_map (λ b. b ∷ 44 ∷ []) (replicate 255 55) ++ bytes "7]")
    ∷ (replicate 255 91 ++ bytes "{\"a\":7}")
    ∷ (replicate 255 91 ++ bytes "{\"b\":7}")
    ∷ [])
    ≡ rows_read 256 ∷ refused_at 64 256 ∷ refused_at 64 256 ∷ rows_read 257 ∷ refused_at 64 511 ∷ refused_at 64 260 ∷ refused_at 64 256 ∷ []
unfolding answered
deepest = refl

-- where so many levels are the most: the key a is listed
abbrev levels : ℕ → List String → List (Reading ℕ)
levels n ss = map (λ s. reading_map length (within n 1024 ((97 ∷ []) ∷ []) (bytes s))) ss

-- a text's value stands at level 1; element k of an array at level l has its value at l + k + 1, and so has a member
stand : levels 1 ("7" ∷ "[]" ∷ "[7]" ∷ "{}" ∷ []) ++ levels 2 ("[7]" ∷ "[7,7]" ∷ "[[]]" ∷ "[[7]]" ∷ "{\"b\":7}" ∷ "{\"a\":7}" ∷ []) ++ levels 3 ("[7,7]" ∷ "[7,7,7]" ∷ "[[7],7]" ∷ "[7,[7]]" ∷ "{\"b\":[7]}" ∷ "{\"a\":7,\"b\":[]}" ∷ "{\"a\":7,\"b\":[7]}" ∷ [])
    ≡ (rows_read 1 ∷ rows_read 1 ∷ refused_at 64 1 ∷ rows_read 1 ∷ []) ++ (rows_read 3 ∷ refused_at 64 3 ∷ rows_read 2 ∷ refused_at 64 2 ∷ rows_read 4 ∷ rows_read 3 ∷ []) ++ (rows_read 4 ∷ refused_at 64 5 ∷ rows_read 4 ∷ refused_at 64 4 ∷ rows_read 6 ∷ rows_read 6 ∷ refused_at 64 12 ∷ [])
unfolding within
stand = refl

-- past the last level: 64 at a value's first byte, before 71 and 73 inside it; at another key's quote, once its string is whole, and before 72; a listed key gives 72 there, or its value gets the 64
past : levels 1 ("[tru" ∷ "[1e5" ∷ "[\"" ∷ "[x" ∷ "[," ∷ "{\"b" ∷ "{\"b\"" ∷ "{\"b\":x" ∷ "{\"a\"" ∷ "{\"a\":x" ∷ "{\"a\":1e5" ∷ []) ++ levels 2 ("{\"b\":7,\"b\":7}" ∷ "{\"a\":7,\"a\":7}" ∷ "{\"a\":7,\"b\":7}" ∷ "{\"b\":7,\"a\":7}" ∷ "{\"b\":7,}" ∷ [])
    ≡ (refused_at 64 1 ∷ refused_at 64 1 ∷ refused_at 64 1 ∷ refused_at 71 1 ∷ refused_at 71 1 ∷ refused_at 71 3 ∷ refused_at 64 1 ∷ refused_at 64 1 ∷ refused_at 71 4 ∷ refused_at 71 5 ∷ refused_at 64 5 ∷ [])
    ++ (refused_at 64 7 ∷ refused_at 72 7 ∷ refused_at 64 7 ∷ refused_at 64 11 ∷ refused_at 71 7 ∷ [])
unfolding within
past = refl

-- whether a refusal is this one
abbrev is? : ℕ → ℕ → Reading (List Row) → Bool
is? n p (rows_read rows) = false
is? n p (refused_at w q) = eqb w n && eqb q p

-- the bytes that a value begins with: the quote, the minus, the digits, [, f, n, t and {; past the last level each gives 64, before it each goes on, as white space does
openings : (bytes_with (λ b. is? 64 0 (within 0 1024 [] (b ∷ []))) ≡ bytes "\"-0123456789[fnt{") × (bytes_with (λ b. not (is? 71 0 (within 1 1024 [] (b ∷ [])))) ≡ 9 ∷ 10 ∷ 13 ∷ 32 ∷ bytes "\"-0123456789[fnt{")
unfolding within
openings = (refl, refl)
