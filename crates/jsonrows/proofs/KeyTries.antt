-- Key lists at each of their limits, computed. Assumes nothing.
use mathlib.Core.Path.{◌≡◌, refl}
use mathlib.Core.List.{List, [], ◌∷◌, ◌++◌, map}
use Prim.Native.Nat.{ℕ, ◌+◌}
use lib.ListN.{replicate}
use Rattle.model.specs.Lists.{tab}
use Rattle.model.specs.Table.{Row}
use Rattle.document.specs.declared.scalar.Scalar.TheVariants.{Bare, Count}
use Rattle.jsonrows.specs.Grammar.{leaf_row, node_row}
use Rattle.jsonrows.specs.Read.{Reading, rows_read, refused_at, read_of}
use Rattle.jsonrows.proofs.Computing.{bytes, answered}

-- so many lines of one byte each, from 33 on
abbrev short : ℕ → List (List ℕ)
short n = tab n (λ i. (33 + i) ∷ [])

-- lines with byte 10 behind each, and with none behind the last
abbrev ended : List (List ℕ) → List ℕ
ended [] = []
ended (l ∷ ls) = l ++ 10 ∷ ended ls

abbrev parted : List (List ℕ) → List ℕ
parted [] = []
parted (l ∷ []) = l
parted (l ∷ m ∷ ls) = l ++ 10 ∷ parted (m ∷ ls)

-- a list is refused, or a text of one row is read
abbrev unfit : Reading ℕ
unfit = refused_at 74 0

abbrev fits : Reading ℕ
fits = rows_read 1

abbrev with_list : List ℕ → Reading ℕ
with_list list = answered list (bytes "7") 10

-- 0, 1, 56 and 57 lines, each with byte 10 behind it, or the last one without
counts : map (λ n. with_list (ended (short n))) (0 ∷ 1 ∷ 56 ∷ 57 ∷ []) ++ map (λ n. with_list (parted (short n))) (1 ∷ 56 ∷ 57 ∷ []) ≡ fits ∷ fits ∷ fits ∷ unfit ∷ fits ∷ fits ∷ unfit ∷ []
unfolding answered
counts = refl

-- lines of 1, 64 and 65 bytes, alone, as the last and as the first; an empty line alone, last, first and between two
sizes : map (λ n. with_list (replicate n 97)) (1 ∷ 64 ∷ 65 ∷ []) ++ map with_list ((98 ∷ 10 ∷ replicate 65 97) ∷ (replicate 65 97 ++ 10 ∷ 98 ∷ []) ∷ (10 ∷ []) ∷ (97 ∷ 10 ∷ 10 ∷ []) ∷ (10 ∷ 97 ∷ []) ∷ (97 ∷ 10 ∷ 10 ∷ 98 ∷ []) ∷ [])
    ≡ fits ∷ fits ∷ unfit ∷ unfit ∷ unfit ∷ unfit ∷ unfit ∷ unfit ∷ unfit ∷ []
unfolding answered
sizes = refl

-- equal lines side by side, apart, and as the first and last; lines that differ in case, in length, or in a space or byte 13 at the end, since nothing is trimmed
equals : map (λ ls. with_list (ended ls))
    ((bytes "a" ∷ bytes "a" ∷ []) ∷ (bytes "a" ∷ bytes "b" ∷ bytes "a" ∷ []) ∷ (short 55 ++ (33 ∷ []) ∷ []) ∷ (bytes "a" ∷ bytes "A" ∷ bytes "aa" ∷ bytes "a " ∷ (97 ∷ 13 ∷ []) ∷ []) ∷ [])
    ≡ unfit ∷ unfit ∷ unfit ∷ fits ∷ []
unfolding answered
equals = refl

-- a line may hold any bytes but 10: a space, 0, 13, those of é, and 255, which is no UTF-8
any_bytes : with_list (ended ((32 ∷ []) ∷ (0 ∷ []) ∷ (13 ∷ []) ∷ (195 ∷ 169 ∷ []) ∷ (255 ∷ []) ∷ [])) ≡ fits
unfolding answered
any_bytes = refl

-- 74 comes before all that is wrong with the text, or with a space that has no room
first : map (λ t. answered (10 ∷ []) t 0) ([] ∷ bytes "x" ∷ bytes "[1e5" ∷ bytes "{\"a\":1,\"a\":2}" ∷ replicate 257 91 ∷ bytes "7" ∷ []) ≡ replicate 6 unfit
unfolding answered
first = refl

-- the rows of an object with one member, 7 under a listed key
abbrev one_member : ℕ → Reading (List Row)
one_member symbol = rows_read (leaf_row 6 (Count 7) ∷ leaf_row 0 Bare ∷ node_row symbol (0 ∷ 1 ∷ []) ∷ [])

-- line i has symbol 8 + i: the first and the last of 56
symbols : map (λ t. read_of (ended (short 56)) t 30) (bytes "{\"!\":7}" ∷ bytes "{\"X\":7}" ∷ []) ≡ one_member 8 ∷ one_member 63 ∷ []
unfolding answered
symbols = refl

-- a line is compared with the decoded key, byte by byte: of é as an escape and as it is, of byte 13 as an escape
decoded : map (λ t. read_of (195 ∷ 169 ∷ 10 ∷ 97 ∷ 13 ∷ []) t 30) (bytes "{\"\\u00e9\":7}" ∷ (123 ∷ 34 ∷ 195 ∷ 169 ∷ bytes "\":7}") ∷ bytes "{\"a\\r\":7}" ∷ []) ≡ one_member 8 ∷ one_member 8 ∷ one_member 9 ∷ []
unfolding answered
decoded = refl

-- none of these is the key of its text: a byte that is no UTF-8 for the character of that number, a line for a key that begins with it, a key for a line that begins with it, a capital letter for a small one
unlisted : answered (255 ∷ []) (bytes "{\"\\u00ff\":7}") 40 ∷ map (λ t. answered (bytes "ab") t 40) (bytes "{\"abc\":7}" ∷ bytes "{\"a\":7}" ∷ bytes "{\"aB\":7}" ∷ []) ≡ replicate 4 (rows_read 4)
unfolding answered
unlisted = refl
