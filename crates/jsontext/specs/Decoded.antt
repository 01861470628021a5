-- What is asked of a string's decoded bytes: where they are looked for in an index, and whether they are those of another string, or given bytes. Assumes nothing.
use Rattle.std.specs.Prelude.{List, [], ◌∷◌, ◌++◌, Bool, false, ℕ, ◌+◌, ◌*◌, ◌/◌, ◌%◌, ◌^◌, length, take, drop, replicate}
use Rattle.std.specs.Int.Bits.{bit_xor}
use Rattle.model.specs.Lists.{eq_list}
use Rattle.base.specs.Text.{Got, got, fault}

-- a number from bytes, the first lowest
abbrev pub join_bytes : List ℕ → ℕ
join_bytes [] = 0
join_bytes (b ∷ bs) = b + 256 * join_bytes bs

-- the first eight bytes, and the last eight, where zeros stand ahead of fewer
abbrev pub first_eight : List ℕ → ℕ
first_eight bs = join_bytes (take 8 bs)

abbrev pub last_eight : List ℕ → ℕ
last_eight bs = join_bytes (drop (length bs) (replicate 8 0 ++ bs))

-- a hash of n, a and z: n and each half of a and of z times a prime of its own; nothing but speed rests on it
abbrev pub hashed : ℕ → ℕ → ℕ → ℕ
hashed n a z =
    bit_xor
    (bit_xor (bit_xor (a % 2 ^ 32 * 2246822519) (a / 2 ^ 32 * 3266489917)) (bit_xor (z % 2 ^ 32 * 2654435761) (z / 2 ^ 32 * 668265263)))
    (n * 374761393)

-- the slot, of 2,048, where a text is looked for first, by how many bytes it has, its first eight and its last eight: bits of the hash on which all of these work
unfoldable pub text_slot : List ℕ → ℕ
text_slot bs = hashed (length bs % 2 ^ 32) (first_eight bs) (last_eight bs) % 2 ^ 32 / 2 ^ 21

-- a string's slot and the place after it
abbrev pub as_slot : Got (List ℕ) → Got ℕ
as_slot (got bs n) = got (text_slot bs) n
as_slot (fault p) = fault p

-- a string is these bytes after decoding
abbrev pub is_text : Got (List ℕ) → List ℕ → Bool
is_text (got bs n) line = eq_list bs line
is_text (fault p) line = false

-- two strings are the same after decoding
abbrev pub same_text : Got (List ℕ) → Got (List ℕ) → Bool
same_text (got x m) g = is_text g x
same_text (fault p) g = false
