-- Names and scalars at a place of a text (document 01, section "Term text"; for the two zeros, document 02, Wish 6). Assumes nothing.
use Rattle.std.specs.Prelude.{List, [], ◌∷◌, Bool, true, false, ◌&&◌, ◌||◌, cond, ℕ, zero, suc, ◌+◌, ◌-◌, ◌*◌, ◌^◌, eqb, leb, ltb, length, take, drop}
pub use Rattle.base.specs.Text.{byte_at, Got, got, fault}
unfoldable pub use Rattle.base.specs.Text.{leading, word_bytes, word_at}
use Rattle.model.specs.Table.{one_zero}
use Rattle.names.specs.Names.{digit?, name_byte?, max_name}

-- how many name bytes stand at i, counted up to one more than a name may have
unfoldable pub name_bytes : List ℕ → ℕ → ℕ
name_bytes t i = leading (suc max_name) (λ k. name_byte? (byte_at t (i + k)))

-- the name at i; a 17th name byte is a fault
unfoldable pub name_at : List ℕ → ℕ → Got (List ℕ)
name_at t i = cond (leb (name_bytes t i) max_name) (got (take (name_bytes t i) (drop i t)) (i + name_bytes t i)) (fault (i + max_name))

-- a digit's value
abbrev pub digit_value : ℕ → ℕ
digit_value b = b - 48

-- the digits at i, of which at most the first number are looked at, after the number v; a fault at one that takes it to the limit
unfoldable pub digits_from : ℕ → ℕ → List ℕ → ℕ → ℕ → Got ℕ
digits_from zero limit t v i = got v i
digits_from (suc n) limit t v i =
    elim (digit? (byte_at t i)) [
      | false ↦ got v i
      | true ↦ elim (ltb (v * 10 + digit_value (byte_at t i)) limit) [
        | true ↦ digits_from n limit t (v * 10 + digit_value (byte_at t i)) (suc i)
        | false ↦ fault i
      ]
    ]

-- the decimal number at i, below the limit: no digit after a leading 0
unfoldable pub number_at : ℕ → List ℕ → ℕ → Got ℕ
unfolding digits_from
number_at limit t i =
    elim (digit? (byte_at t i)) [
      | false ↦ fault i
      | true ↦ elim (eqb (byte_at t i) 48) [
        | true ↦ cond (digit? (byte_at t (i + 1))) (fault (i + 1)) (got 0 (i + 1))
        | false ↦ digits_from (length t - (i + 1)) limit t (digit_value (byte_at t i)) (i + 1)
      ]
    ]

-- 0 to 9, a to f
unfoldable pub hex_digit? : ℕ → Bool
hex_digit? b = digit? b || (leb 97 b && leb b 102)

unfoldable pub hex_value : ℕ → ℕ
hex_value b = cond (digit? b) (b - 48) (b - 87)

-- n hex digits at i, after the number v
unfoldable pub hex_from : ℕ → List ℕ → ℕ → ℕ → Got ℕ
hex_from zero t v i = got v i
hex_from (suc n) t v i = elim (hex_digit? (byte_at t i)) [ true ↦ hex_from n t (v * 16 + hex_value (byte_at t i)) (suc i) | false ↦ fault i ]

-- a kind and a payload
pub record Scalar : Type 0 where
  pub kind : ℕ
  pub payload : ℕ

abbrev pub scalar : ℕ → ℕ → Scalar
scalar k p = record { kind = k; payload = p }

-- a number as a scalar of kind k
abbrev pub of_kind : ℕ → Got ℕ → Got Scalar
of_kind k (got n e) = got (scalar k n) e
of_kind k (fault p) = fault p

-- the bits of a rate as a row has them: minus zero becomes zero
abbrev pub of_rate : Got ℕ → Got Scalar
of_rate (got n e) = got (scalar 3 (one_zero n)) e
of_rate (fault p) = fault p

-- after `=`: `true`, `false` or a count
unfoldable pub value_at : List ℕ → ℕ → Got Scalar
value_at t i =
    elim (eqb (byte_at t i) 116) [
      | true ↦ word_at (scalar 1 1) (116 ∷ 114 ∷ 117 ∷ 101 ∷ []) t i
      | false ↦ elim (eqb (byte_at t i) 102) [
        | true ↦ word_at (scalar 1 0) (102 ∷ 97 ∷ 108 ∷ 115 ∷ 101 ∷ []) t i
        | false ↦ of_kind 2 (number_at (2 ^ 64) t i)
      ]
    ]

-- behind a name: a scalar after `=`, `~` or `#`, else nothing, which is a bare one
unfoldable pub scalar_at : List ℕ → ℕ → Got Scalar
scalar_at t i =
    elim (eqb (byte_at t i) 61) [
      | true ↦ value_at t (i + 1)
      | false ↦ elim (eqb (byte_at t i) 126) [
        | true ↦ of_rate (hex_from 16 t 0 (i + 1))
        | false ↦ elim (eqb (byte_at t i) 35) [ true ↦ of_kind 4 (number_at (2 ^ 32) t (i + 1)) | false ↦ got (scalar 0 0) i ]
      ]
    ]
