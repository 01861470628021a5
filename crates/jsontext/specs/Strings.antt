-- A JSON string at a place (RFC 8259, section 7): its bytes after escapes are decoded, or the first byte that has no legal continuation (document 02, Wish 1: 71). Assumes nothing.
use Rattle.std.specs.Prelude.{List, [], ◌++◌, Bool, true, false, not, ◌&&◌, ◌||◌, cond, ℕ, zero, suc, ◌+◌, ◌-◌, ◌*◌, ◌%◌, eqb, leb, ltb, length, take, drop}
use Rattle.classes.specs.Classes.{digit?, either_hex_digit?, control?}
use Rattle.base.specs.Text.{byte_at, Got, got, fault}
use Rattle.jsontext.specs.Utf8.{between, Stretch, up_to, broken_at, sequence_at, utf8}

-- the byte that an escape of one letter stands for: \" \\ \/ \b \f \n \r \t; 0 for another
unfoldable pub simple : ℕ → ℕ
simple c =
    cond (eqb c 34) 34
    (cond (eqb c 92) 92
    (cond (eqb c 47) 47 (cond (eqb c 98) 8 (cond (eqb c 102) 12 (cond (eqb c 110) 10 (cond (eqb c 114) 13 (cond (eqb c 116) 9 0)))))))

-- a hex digit's value, either case
unfoldable pub hex_value : ℕ → ℕ
hex_value b = cond (digit? b) (b - 48) (cond (leb 97 b) (b - 87) (b - 55))

-- n hex digits at i, after the number v; a fault at the first byte that is none
unfoldable pub hex_from : ℕ → List ℕ → ℕ → ℕ → Got ℕ
hex_from zero t v i = got v i
hex_from (suc n) t v i = elim (either_hex_digit? (byte_at t i)) [ true ↦ hex_from n t (v * 16 + hex_value (byte_at t i)) (i + 1) | false ↦ fault i ]

-- d or D, and a digit from c to f or C to F: how a low surrogate begins
unfoldable pub dee? : ℕ → Bool
dee? b = eqb b 68 || eqb b 100

unfoldable pub low? : ℕ → Bool
low? b = between 67 70 b || between 99 102 b

-- the four digits of a first \u: no character begins with a low surrogate, which shows at its second digit
unfoldable pub first_unit : List ℕ → ℕ → Got ℕ
unfolding hex_from
first_unit t i = elim (dee? (byte_at t i) && low? (byte_at t (i + 1))) [ true ↦ fault (i + 1) | false ↦ hex_from 4 t 0 i ]

-- the four digits of a second \u: a low surrogate
unfoldable pub second_unit : List ℕ → ℕ → Got ℕ
unfolding hex_from
second_unit t i = elim (dee? (byte_at t i)) [ false ↦ fault i | true ↦ elim (low? (byte_at t (i + 1))) [ false ↦ fault (i + 1) | true ↦ hex_from 4 t 0 i ] ]

-- a high surrogate, and the code point of a pair: the low ten bits of each
abbrev pub high? : ℕ → Bool
high? v = between 55296 56319 v

abbrev pub paired : ℕ → ℕ → ℕ
paired v w = 65536 + v % 1024 * 1024 + w % 1024

-- what stands at a place of a string: the closing quote, bytes that stand for themselves and the place after them, a code point by escape and the place after it, or a byte that no rule allows
pub data Piece : Type 0 where
  closed : Piece
  raw : ℕ → Piece
  code : ℕ → ℕ → Piece
  bad : ℕ → Piece

-- a code point and the place after it
abbrev pub as_code : Got ℕ → Piece
as_code (got v n) = code v n
as_code (fault p) = bad p

abbrev pub as_pair : ℕ → Got ℕ → Piece
as_pair v (got w n) = code (paired v w) n
as_pair v (fault p) = bad p

-- after a high surrogate v: \u and a low surrogate
unfoldable pub pair_at : List ℕ → ℕ → ℕ → Piece
unfolding second_unit
pair_at t v n =
    elim (eqb (byte_at t n) 92) [
      | false ↦ bad n
      | true ↦ elim (eqb (byte_at t (n + 1)) 117) [ false ↦ bad (n + 1) | true ↦ as_pair v (second_unit t (n + 2)) ]
    ]

-- after \u
unfoldable pub unicode_at : List ℕ → ℕ → Piece
unfolding first_unit
unicode_at t i =
    elim (first_unit t i) [
      | fault p ↦ bad p
      | got v n ↦ elim (high? v) [ true ↦ pair_at t v n | false ↦ code v n ]
    ]

-- after a backslash
unfoldable pub escape_at : List ℕ → ℕ → Piece
escape_at t i =
    elim (eqb (byte_at t i) 117) [
      | true ↦ unicode_at t (i + 1)
      | false ↦ elim (eqb (simple (byte_at t i)) 0) [ true ↦ bad i | false ↦ code (simple (byte_at t i)) (i + 1) ]
    ]

-- bytes above 127
abbrev pub as_raw : Stretch → Piece
as_raw (up_to n) = raw n
as_raw (broken_at p) = bad p

unfoldable pub piece_at : List ℕ → ℕ → Piece
piece_at t i =
    elim (eqb (byte_at t i) 34) [
      | true ↦ closed
      | false ↦ elim (eqb (byte_at t i) 92) [
        | true ↦ escape_at t (i + 1)
        | false ↦ elim (control? (byte_at t i)) [
          | true ↦ bad i
          | false ↦ elim (ltb (byte_at t i) 128) [ true ↦ raw (i + 1) | false ↦ as_raw (sequence_at t i) ]
        ]
      ]
    ]

-- a byte that stands for itself, alone
unfoldable pub plain? : ℕ → Bool
plain? b = not (eqb b 34) && not (eqb b 92) && leb 32 b && ltb b 128

-- bytes in front of what was decoded behind them
abbrev pub with_front : List ℕ → Got (List ℕ) → Got (List ℕ)
with_front bs (got more n) = got (bs ++ more) n
with_front bs (fault p) = fault p

-- the string from i on, behind its opening quote: so many pieces at most, for which the bytes left are enough
unfoldable pub string_from : ℕ → List ℕ → ℕ → Got (List ℕ)
unfolding piece_at
string_from zero t i = fault i
string_from (suc f) t i =
    elim (piece_at t i) [
      | closed ↦ got [] (i + 1)
      | raw n ↦ with_front (take (n - i) (drop i t)) (string_from f t n)
      | code c n ↦ with_front (utf8 c) (string_from f t n)
      | bad p ↦ fault p
    ]

-- the string at i, from its opening quote on: its decoded bytes and the place after it, or the fault's place
unfoldable pub string_at : List ℕ → ℕ → Got (List ℕ)
unfolding string_from
string_at t i = elim (eqb (byte_at t i) 34) [ true ↦ string_from (length t - i) t (i + 1) | false ↦ fault i ]
