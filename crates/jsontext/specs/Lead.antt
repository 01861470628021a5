-- What a lead byte of UTF-8 asks, in numbers: how many bytes follow it, and what the first of them may be. The rows of the table are built of these. Assumes nothing.
use Rattle.std.specs.Prelude.{cond, ℕ, eqb}
use Rattle.jsontext.specs.Utf8.{between}

-- how many bytes follow: 1 after C2 to DF, 2 after E0 to EF, 3 after F0 to F4, none after another
unfoldable pub follows : ℕ → ℕ
follows b = cond (between 194 223 b) 1 (cond (between 224 239 b) 2 (cond (between 240 244 b) 3 0))

-- the lowest that may come first: A0 after E0, 90 after F0, else 80
unfoldable pub lowest : ℕ → ℕ
lowest b = cond (eqb b 224) 160 (cond (eqb b 240) 144 128)

-- the highest: 9F after ED, 8F after F4, else BF
unfoldable pub highest : ℕ → ℕ
highest b = cond (eqb b 237) 159 (cond (eqb b 244) 143 191)
