-- Whole texts of the settled readings of document 02, Wish 1, computed: what is read, how texts are numbered, and where 67 and 72 stand. Assumes nothing.
use mathlib.Core.Path.{◌≡◌, refl}
use mathlib.Core.Bool.{true, false}
use mathlib.Core.List.{List, [], ◌∷◌, ◌++◌, map}
use Prim.Native.Nat.{ℕ}
use Prim.Native.String.{String}
use lib.ListN.{length}
use Rattle.model.specs.Lists.{concat_map}
use Rattle.model.specs.Table.{Row}
use Rattle.document.specs.declared.scalar.Scalar.TheVariants.{Bare, Flag, Count, Name}
use Rattle.jsonrows.specs.Grammar.{leaf_row, node_row}
use Rattle.jsonrows.specs.Read.{Reading, rows_read, refused_at, reading_map, setting_for}
use Rattle.jsonrows.proofs.Computing.{bytes, within, answered}

-- by the listed keys, at most so many rows of at most 256 levels
abbrev by : List (List ℕ) → ℕ → List ℕ → Reading (List Row)
by keys limit t = within 256 limit keys t

-- the key a
abbrev a : List (List ℕ)
a = (97 ∷ []) ∷ []

-- 67 where the row is finished: room for 0, 1, 2 and 3 rows, then enough
room : map (λ limit. by [] limit (bytes "{\"ab\":7}")) (0 ∷ 1 ∷ 2 ∷ 3 ∷ 4 ∷ [])
    ≡ refused_at 67 4 ∷ refused_at 67 6 ∷ refused_at 67 7 ∷ refused_at 67 7 ∷ rows_read (leaf_row 7 (Name 0) ∷ leaf_row 6 (Count 7) ∷ leaf_row 0 Bare ∷ node_row 2 (0 ∷ 1 ∷ 2 ∷ []) ∷ []) ∷ []
unfolding within
room = refl

-- so it does for each kind of row: a word's last letter, a number's last digit, a closing quote, a closing mark, for a listed key's member too
finished : map (by [] 0) (map bytes ("null" ∷ " true " ∷ "false," ∷ "-1.25 " ∷ "\"ab\"" ∷ "{ }" ∷ "[ ]" ∷ [])) ++ by a 1 (bytes "{\"a\":7}") ∷ by a 2 (bytes "{\"a\":7}") ∷ by [] 2 (bytes "[7 ]") ∷ []
    ≡ map (refused_at 67) (3 ∷ 4 ∷ 4 ∷ 4 ∷ 3 ∷ 2 ∷ 2 ∷ 6 ∷ 6 ∷ 3 ∷ [])
unfolding within
finished = refl

-- each symbol, with its children in order: end, stop, other, item, null, flag, number, text, and the second line of two
symbols : map (by ((97 ∷ []) ∷ (98 ∷ []) ∷ []) 1024) (map bytes ("{}" ∷ "[]" ∷ "{\"c\":null}" ∷ "[7]" ∷ "true" ∷ "false" ∷ "\"a\"" ∷ "{\"b\":[]}" ∷ []))
    ≡ map rows_read
    ((leaf_row 0 Bare ∷ [])
    ∷ (leaf_row 1 Bare ∷ [])
    ∷ (leaf_row 7 (Name 0) ∷ leaf_row 4 Bare ∷ leaf_row 0 Bare ∷ node_row 2 (0 ∷ 1 ∷ 2 ∷ []) ∷ [])
    ∷ (leaf_row 6 (Count 7) ∷ leaf_row 1 Bare ∷ node_row 3 (0 ∷ 1 ∷ []) ∷ [])
    ∷ (leaf_row 5 (Flag true) ∷ [])
    ∷ (leaf_row 5 (Flag false) ∷ [])
    ∷ (leaf_row 7 (Name 0) ∷ [])
    ∷ (leaf_row 1 Bare ∷ leaf_row 0 Bare ∷ node_row 9 (0 ∷ 1 ∷ []) ∷ [])
    ∷ [])
unfolding within
symbols = refl

-- texts are numbered where they first become a leaf, and a listed key takes no number
numbers : by a 1024 (bytes "{\"a\":\"b\",\"c\":\"a\"}")
    ≡ rows_read (leaf_row 7 (Name 0) ∷ leaf_row 7 (Name 1) ∷ leaf_row 7 (Name 2) ∷ leaf_row 0 Bare ∷ node_row 2 (1 ∷ 2 ∷ 3 ∷ []) ∷ node_row 8 (0 ∷ 4 ∷ []) ∷ [])
unfolding within
numbers = refl

-- a text that stood before has the number and the row that it had, however it is written, as a value and as a key
again : by [] 1024 (bytes "[\"b\",\"a\",\"\\u0062\",{\"a\":\"b\"}]")
    ≡ rows_read
    (leaf_row 7 (Name 0)
    ∷ leaf_row 7 (Name 1)
    ∷ leaf_row 0 Bare
    ∷ node_row 2 (1 ∷ 0 ∷ 2 ∷ [])
    ∷ leaf_row 1 Bare
    ∷ node_row 3 (3 ∷ 4 ∷ [])
    ∷ node_row 3 (0 ∷ 5 ∷ [])
    ∷ node_row 3 (1 ∷ 6 ∷ [])
    ∷ node_row 3 (0 ∷ 7 ∷ [])
    ∷ [])
unfolding within
again = refl

-- how many rows
abbrev many : List (List ℕ) → String → Reading ℕ
many keys s = reading_map length (by keys 1024 (bytes s))

-- the two zeros are one number's row, a count is another's
zeros : map (many []) ("[-0,0.0]" ∷ "[0,-0]" ∷ []) ≡ map rows_read (4 ∷ 5 ∷ [])
unfolding within
zeros = refl

-- a key twice in one object, after decoding, listed and not, right behind and later, once its string is whole; the empty key; in two objects it may stand
repeated : map (many a) ("{\"a\":1,\"a\":2}" ∷ "{\"b\":1, \"b\":2}" ∷ "{\"a\":1,\"\\u0061\"" ∷ "{\"b\":1,\"\\u0062\"" ∷ "{\"b\":1,\"a\":1,\"b\":1}" ∷ "{\"a\":1,\"b\":1,\"a\":1}" ∷ "{\"\":1,\"\":2}" ∷ "{\"b\":1,\"b" ∷ "{\"b\":{\"b\":1}}" ∷ "[{\"a\":1},{\"a\":1}]" ∷ [])
    ≡ refused_at 72 7 ∷ refused_at 72 8 ∷ refused_at 72 7 ∷ refused_at 72 7 ∷ refused_at 72 13 ∷ refused_at 72 13 ∷ refused_at 72 6 ∷ refused_at 71 9 ∷ rows_read 5 ∷ rows_read 6 ∷ []
unfolding within
repeated = refl

-- the rows of the space: as many as fit whole, and 1,024 at most
spaces : map (λ cells. (setting_for [] cells).limit) (0 ∷ 9 ∷ 10 ∷ 10239 ∷ 10240 ∷ 10250 ∷ []) ≡ 0 ∷ 0 ∷ 1 ∷ 1023 ∷ 1024 ∷ 1024 ∷ []
spaces = refl

-- so with a text of three rows
cells : map (answered [] (bytes "[7]")) (0 ∷ 9 ∷ 19 ∷ 29 ∷ 30 ∷ []) ≡ refused_at 67 1 ∷ refused_at 67 1 ∷ refused_at 67 2 ∷ refused_at 67 2 ∷ rows_read 3 ∷ []
unfolding answered
cells = refl

-- white space of each kind before, between and behind all parts changes nothing
parts : List (List ℕ)
unfolding bytes
parts = map bytes ("{" ∷ "\"a\"" ∷ ":" ∷ "[" ∷ "7" ∷ "," ∷ "true" ∷ "]" ∷ "," ∷ "\"b\"" ∷ ":" ∷ "{" ∷ "}" ∷ "," ∷ "\"c\"" ∷ ":" ∷ "[" ∷ "]" ∷ "}" ∷ [])

white : (by a 1024 (concat_map (λ p. 9 ∷ 10 ∷ 13 ∷ 32 ∷ p) parts ++ 32 ∷ 13 ∷ 10 ∷ 9 ∷ []) ≡ by a 1024 (concat_map (λ p. p) parts)) × (reading_map length (by a 1024 (concat_map (λ p. p) parts)) ≡ rows_read 11)
unfolding parts within
white = (refl, refl)
