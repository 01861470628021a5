-- The 32-bit FNV-1a hash of a row (document 01, section "Documents"). Assumes nothing.
use Rattle.std.specs.Prelude.{List, [], ◌∷◌, ℕ, ◌*◌, ◌/◌, ◌%◌, ◌^◌}
use Rattle.std.specs.Int.Bits.{bit_xor}

-- a product with the factor, modulo 2^32
abbrev pub fnv_product : ℕ → ℕ
fnv_product h = h * 16777619 % 2 ^ 32

-- a byte more
abbrev pub fnv_byte : ℕ → ℕ → ℕ
fnv_byte h b = fnv_product (bit_xor h b)

-- a cell more, its low byte first
abbrev pub fnv_cell : ℕ → ℕ → ℕ
fnv_cell h x = fnv_byte (fnv_byte h (x % 256)) (x / 256)

-- the bytes on, from the hash h
unfoldable pub fnv_from : ℕ → List ℕ → ℕ
fnv_from h [] = h
fnv_from h (b ∷ bytes) = fnv_from (fnv_byte h b) bytes

abbrev pub fnv1a : List ℕ → ℕ
fnv1a bytes = fnv_from 2166136261 bytes

-- the bytes of 16-bit cells, low byte first
abbrev pub cell_bytes : List ℕ → List ℕ
cell_bytes [] = []
cell_bytes (c ∷ cells) = c % 256 ∷ c / 256 ∷ cell_bytes cells

-- the hash of a row's ten cells
abbrev pub row_hash : List ℕ → ℕ
row_hash cells = fnv1a (cell_bytes cells)
