-- Strings at each edge of what RFC 8259 and the Unicode standard allow, computed over every byte where they go by bytes. Assumes nothing.
use mathlib.Core.Path.{◌≡◌, refl}
use mathlib.Core.Bool.{Bool, true}
use mathlib.Core.List.{List, [], ◌∷◌, ◌++◌, map}
use Prim.Native.Nat.{ℕ, ◌+◌}
use Prim.Native.String.{String}
use lib.Dec.{ltb}
use lib.ListN.{length, replicate}
use Rattle.model.specs.Lists.{concat_map, tab}
use Rattle.base.specs.Text.{Got, got, fault}
use Rattle.classes.proofs.Members.{bytes_with}
use Rattle.jsontext.specs.Strings.{string_at}
use Rattle.jsontext.specs.Decoded.{is_text}
use Rattle.jsonrows.proofs.Computing.{bytes, within}

-- n numbers from b on
abbrev from : ℕ → ℕ → List ℕ
from b n = tab n (λ k. b + k)

-- the string between two quotes
abbrev quoted : List ℕ → Got (List ℕ)
quoted bs = string_at (34 ∷ bs ++ 34 ∷ []) 0

abbrev decoded : Got (List ℕ) → List (List ℕ)
decoded (got bs n) = bs ∷ []
decoded (fault p) = []

-- no fault up to place i
abbrev passes : ℕ → Got (List ℕ) → Bool
passes i (got bs n) = true
passes i (fault p) = ltb i p

-- a byte alone that stands for itself: 20 to 7F, but for the quote and the backslash
alone : bytes_with (λ b. is_text (quoted (b ∷ [])) (b ∷ [])) ≡ 32 ∷ 33 ∷ from 35 57 ++ from 93 35
unfolding within
alone = refl

-- the letters of an escape, each with what it stands for: " / \ b f n r t
escapes : concat_map {B = ℕ × List ℕ} (λ b. map (λ bs. (b, bs)) (decoded (quoted (92 ∷ b ∷ [])))) (from 0 256)
    ≡ (34, 34 ∷ []) ∷ (47, 47 ∷ []) ∷ (92, 92 ∷ []) ∷ (98, 8 ∷ []) ∷ (102, 12 ∷ []) ∷ (110, 10 ∷ []) ∷ (114, 13 ∷ []) ∷ (116, 9 ∷ []) ∷ []
unfolding within
escapes = refl

-- the value of each hex digit, and of each place
hex : (map (λ h. quoted (bytes "\\u004" ++ h ∷ [])) (bytes "0123456789abcdefABCDEF") ≡ map (λ v. got ((64 + v) ∷ []) 8) (from 0 16 ++ from 10 6)) × (quoted (bytes "\\u1234") ≡ got (225 ∷ 136 ∷ 180 ∷ []) 8)
unfolding within
hex = (refl, refl)

-- the first and last characters of one, two, three and four bytes, and those beside the surrogates: each by escape, and as its bytes stand
characters : List (String × List ℕ)
characters =
    ("\\u0020", 32 ∷ [])
    ∷ ("\\u007F", 127 ∷ [])
    ∷ ("\\u0080", 194 ∷ 128 ∷ [])
    ∷ ("\\u07ff", 223 ∷ 191 ∷ [])
    ∷ ("\\u0800", 224 ∷ 160 ∷ 128 ∷ [])
    ∷ ("\\uD7FF", 237 ∷ 159 ∷ 191 ∷ [])
    ∷ ("\\ue000", 238 ∷ 128 ∷ 128 ∷ [])
    ∷ ("\\uFFFF", 239 ∷ 191 ∷ 191 ∷ [])
    ∷ ("\\uD800\\udc00", 240 ∷ 144 ∷ 128 ∷ 128 ∷ [])
    ∷ ("\\uD800\\uDFFF", 240 ∷ 144 ∷ 143 ∷ 191 ∷ [])
    ∷ ("\\udbff\\uDC00", 244 ∷ 143 ∷ 176 ∷ 128 ∷ [])
    ∷ ("\\uDBFF\\udfff", 244 ∷ 143 ∷ 191 ∷ 191 ∷ [])
    ∷ []

both_ways : (map (λ c. decoded (quoted (bytes c.0))) characters ≡ map (λ c. c.1 ∷ []) characters) × (map (λ c. quoted c.1) characters ≡ map (λ c. got c.1 (length c.1 + 2)) characters)
unfolding characters within
both_ways = (refl, refl)

-- the bytes that may come after an opening quote and these, whatever follows
abbrev after : List ℕ → List ℕ
after bs = bytes_with (λ b. passes (length bs + 1) (string_at (34 ∷ bs ++ b ∷ []) 0))

-- table 3-7 of the Unicode standard by its edges: the bytes that lead a sequence, those that come second after each row's first and last, and those that come later
rows : (after [] ≡ from 32 96 ++ from 194 51) × (map (λ b. after (b ∷ [])) (194 ∷ 223 ∷ 225 ∷ 236 ∷ 238 ∷ 239 ∷ 241 ∷ 243 ∷ []) ≡ replicate 8 (from 128 64))
    × (map (λ b. after (b ∷ [])) (224 ∷ 237 ∷ 240 ∷ 244 ∷ []) ≡ from 160 32 ∷ from 128 32 ∷ from 144 48 ∷ from 128 16 ∷ [])
    × (map after ((224 ∷ 160 ∷ []) ∷ (237 ∷ 159 ∷ []) ∷ (240 ∷ 144 ∷ []) ∷ (244 ∷ 143 ∷ []) ∷ (241 ∷ 128 ∷ 128 ∷ []) ∷ []) ≡ replicate 5 (from 128 64))
unfolding within
rows = (refl, refl, refl, refl)

-- half a surrogate pair, at the first byte that cannot go on: the low half first, the high half before the end, another escape, or what is no low half
halves : map (λ s. string_at (34 ∷ bytes s) 0) ("\\uDC00\"" ∷ "\\udfff\"" ∷ "\\ud800\"" ∷ "\\uDBFF\"" ∷ "\\ud800x" ∷ "\\ud800\\n" ∷ "\\ud800\\u0041" ∷ "\\ud800\\uE000" ∷ "\\ud800\\ud7ff" ∷ "\\ud800\\udbff" ∷ "\\ud800\\uDC0" ∷ []) ≡ map fault (4 ∷ 4 ∷ 7 ∷ 7 ∷ 7 ∷ 8 ∷ 9 ∷ 9 ∷ 10 ∷ 10 ∷ 12 ∷ [])
unfolding within
halves = refl

-- strings that break off, or have what no string may: no end, an escape of another letter, too few hex digits, a control byte
broken : map (λ bs. string_at (34 ∷ bs) 0) ([] ∷ bytes "a" ∷ bytes "\\" ∷ bytes "\\x" ∷ bytes "\\U0041\"" ∷ bytes "\\u004" ∷ bytes "\\u004g\"" ∷ bytes "\\u\"" ∷ (97 ∷ 31 ∷ 34 ∷ []) ∷ (10 ∷ 34 ∷ []) ∷ []) ≡ map fault (1 ∷ 2 ∷ 2 ∷ 2 ∷ 2 ∷ 6 ∷ 6 ∷ 3 ∷ 2 ∷ 1 ∷ [])
unfolding within
broken = refl
