-- The productions of RFC 8259 for white space, numbers and strings, each quoted, as relations between places of a text: the bytes from place i up to place n are what it says. Assumes nothing.
use Rattle.std.specs.Prelude.{◌≡◌, Bool, true, false, ◌||◌, ℕ, ◌+◌, ◌-◌, ◌*◌, eqb, take, drop}
use mathlib.Core.List.{List, [], ◌∷◌, ◌++◌, Memᴰ as In}
use Rattle.classes.specs.Classes.{digit?, either_hex_digit?, space?}
use Rattle.base.specs.Text.{byte_at}
use Rattle.jsontext.specs.Utf8.{between, Sequence, sequences, utf8}
use Rattle.jsontext.specs.Strings.{hex_value, high?, paired}
use Rattle.jsontext.specs.Number.{Digits, no_digits, with_digit, Number}

-- ws = *( %x20 / %x09 / %x0A / %x0D )
pub data Spaces (t : List ℕ) : ℕ → ℕ → Type 0 where
  no_space : {i : ℕ} → Spaces t i i
  space : {i n : ℕ} → space? (byte_at t i) ≡ true → Spaces t (i + 1) n → Spaces t i n

-- *DIGIT; with them the digits d become the digits e
pub data DigitsAt (t : List ℕ) : Digits → ℕ → Digits → ℕ → Type 0 where
  no_digit : {d : Digits} {i : ℕ} → DigitsAt t d i d i
  digit : {d e : Digits} {i n : ℕ} → digit? (byte_at t i) ≡ true → DigitsAt t (with_digit d (byte_at t i)) (i + 1) e n → DigitsAt t d i e n

-- 1*DIGIT
pub record SomeDigitsAt (t : List ℕ) (d : Digits) (i : ℕ) (e : Digits) (n : ℕ) : Type 0 where
  pub first : digit? (byte_at t i) ≡ true
  pub others : DigitsAt t (with_digit d (byte_at t i)) (i + 1) e n

-- int = zero / ( digit1-9 *DIGIT ); zero = %x30; digit1-9 = %x31-39
pub data IntAt (t : List ℕ) : ℕ → Digits → ℕ → Type 0 where
  only_zero : {i n : ℕ} → byte_at t i ≡ 48 → n ≡ i + 1 → IntAt t i (with_digit no_digits 48) n
  digit1_9 : {i n : ℕ} {d : Digits} → between 49 57 (byte_at t i) ≡ true → DigitsAt t (with_digit no_digits (byte_at t i)) (i + 1) d n → IntAt t i d n

-- frac = decimal-point 1*DIGIT; decimal-point = %x2E
pub record FracAt (t : List ℕ) (d : Digits) (i : ℕ) (e : Digits) (n : ℕ) : Type 0 where
  pub decimal_point : byte_at t i ≡ 46
  pub digits : SomeDigitsAt t d (i + 1) e n

-- e = %x65 / %x45
unfoldable pub e? : ℕ → Bool
e? b = eqb b 101 || eqb b 69

-- [ minus / plus ]; minus = %x2D; plus = %x2B
pub data SignAt (t : List ℕ) : ℕ → ℕ → Type 0 where
  no_sign : {i : ℕ} → SignAt t i i
  sign_minus : {i n : ℕ} → byte_at t i ≡ 45 → n ≡ i + 1 → SignAt t i n
  sign_plus : {i n : ℕ} → byte_at t i ≡ 43 → n ≡ i + 1 → SignAt t i n

-- exp = e [ minus / plus ] 1*DIGIT
pub data ExpAt (t : List ℕ) : ℕ → ℕ → Type 0 where
  exp : {i j n : ℕ} {d : Digits} → e? (byte_at t i) ≡ true → SignAt t (i + 1) j → SomeDigitsAt t no_digits j d n → ExpAt t i n

-- [ minus ]: whether there is one
pub data MinusOption (t : List ℕ) : ℕ → Bool → ℕ → Type 0 where
  no_minus : {i : ℕ} → MinusOption t i false i
  minus : {i n : ℕ} → byte_at t i ≡ 45 → n ≡ i + 1 → MinusOption t i true n

-- [ frac ]: how many digits it has, and whether there is one
pub data FracOption (t : List ℕ) : Digits → ℕ → Digits → ℕ → Bool → ℕ → Type 0 where
  no_frac : {d : Digits} {i : ℕ} → FracOption t d i d 0 false i
  frac : {d e : Digits} {i n : ℕ} → FracAt t d i e n → FracOption t d i e (e.count - d.count) true n

-- [ exp ]: whether there is one
pub data ExpOption (t : List ℕ) : ℕ → Bool → ℕ → Type 0 where
  no_exp : {i : ℕ} → ExpOption t i false i
  with_exp : {i n : ℕ} → ExpAt t i n → ExpOption t i true n

-- number = [ minus ] int [ frac ] [ exp ]
pub data NumberAt (t : List ℕ) : ℕ → Number → ℕ → Type 0 where
  number : {i j k l n places : ℕ} {d e : Digits} {negative fraction exponent : Bool} → MinusOption t i negative j → IntAt t j d k → FracOption t d k e places fraction l → ExpOption t l exponent n
      → NumberAt t i (record { negative = negative; digits = e; places = places; fraction = fraction; exponent = exponent }) n

-- a byte that could make the number before it longer: a digit, the decimal point, e; a number ends before another
unfoldable pub continues? : ℕ → Bool
continues? b = digit? b || (eqb b 46 || e? b)

-- unescaped = %x20-21 / %x23-5B / %x5D-10FFFF, of which here those up to %x7F, of one byte
unfoldable pub unescaped? : ℕ → Bool
unescaped? b = between 32 33 b || (between 35 91 b || between 93 127 b)

-- bytes that pass the tests in turn
pub data PassAt (t : List ℕ) : List (ℕ → Bool) → ℕ → ℕ → Type 0 where
  no_more : {i : ℕ} → PassAt t [] i i
  pass : {p : ℕ → Bool} {ps : List (ℕ → Bool)} {i n : ℕ} → p (byte_at t i) ≡ true → PassAt t ps (i + 1) n → PassAt t (p ∷ ps) i n

-- unescaped above %x7F: two bytes or more that are well-formed UTF-8, by a row of the Unicode standard's table
pub record SequenceAt (t : List ℕ) (i n : ℕ) : Type 0 where
  pub row : Sequence
  pub listed : In row sequences
  pub leads : row.lead (byte_at t i) ≡ true
  pub follow : PassAt t row.more (i + 1) n

-- the letters after an escape and the bytes that they stand for: quotation mark, reverse solidus, solidus, backspace, form feed, line feed, carriage return, tab
abbrev pub letters : List (ℕ × ℕ)
letters = (34, 34) ∷ (92, 92) ∷ (47, 47) ∷ (98, 8) ∷ (102, 12) ∷ (110, 10) ∷ (114, 13) ∷ (116, 9) ∷ []

-- 4HEXDIG: the number v
pub record Hex4 (t : List ℕ) (i v : ℕ) : Type 0 where
  pub first : either_hex_digit? (byte_at t i) ≡ true
  pub second : either_hex_digit? (byte_at t (i + 1)) ≡ true
  pub third : either_hex_digit? (byte_at t (i + 2)) ≡ true
  pub fourth : either_hex_digit? (byte_at t (i + 3)) ≡ true
  pub value : v ≡ ((hex_value (byte_at t i) * 16 + hex_value (byte_at t (i + 1))) * 16 + hex_value (byte_at t (i + 2))) * 16 + hex_value (byte_at t (i + 3))

-- escape %x75 4HEXDIG; escape = %x5C
pub record UnicodeAt (t : List ℕ) (i v : ℕ) : Type 0 where
  pub escape : byte_at t i ≡ 92
  pub u : byte_at t (i + 1) ≡ 117
  pub hex : Hex4 t (i + 2) v

-- D800 to DFFF, and of these the second of a pair
abbrev pub surrogate? : ℕ → Bool
surrogate? v = between 55296 57343 v

abbrev pub low_surrogate? : ℕ → Bool
low_surrogate? v = between 56320 57343 v

-- char = unescaped / escape ( %x22 / %x5C / %x2F / %x62 / %x66 / %x6E / %x72 / %x74 / %x75 4HEXDIG ), and the bytes in UTF-8 of the character that it stands for; two of the last kind that are a surrogate pair stand for one character, and half of a pair for none
pub data CharAt (t : List ℕ) : ℕ → List ℕ → ℕ → Type 0 where
  unescaped : {i n : ℕ} → unescaped? (byte_at t i) ≡ true → n ≡ i + 1 → CharAt t i (byte_at t i ∷ []) n
  above_7_f : {i n : ℕ} → SequenceAt t i n → CharAt t i (take (n - i) (drop i t)) n
  letter : {i n b : ℕ} → byte_at t i ≡ 92 → In (byte_at t (i + 1), b) letters → n ≡ i + 2 → CharAt t i (b ∷ []) n
  unicode : {i n v : ℕ} → UnicodeAt t i v → surrogate? v ≡ false → n ≡ i + 6 → CharAt t i (utf8 v) n
  pair : {i n v w : ℕ} → UnicodeAt t i v → high? v ≡ true → UnicodeAt t (i + 6) w → low_surrogate? w ≡ true → n ≡ i + 12 → CharAt t i (utf8 (paired v w)) n

-- *char
pub data CharsAt (t : List ℕ) : ℕ → List ℕ → ℕ → Type 0 where
  no_char : {i : ℕ} → CharsAt t i [] i
  char : {i m n : ℕ} {bs more : List ℕ} → CharAt t i bs m → CharsAt t m more n → CharsAt t i (bs ++ more) n

-- string = quotation-mark *char quotation-mark; quotation-mark = %x22
pub data StringAt (t : List ℕ) : ℕ → List ℕ → ℕ → Type 0 where
  string : {i m n : ℕ} {bs : List ℕ} → byte_at t i ≡ 34 → CharsAt t (i + 1) bs m → byte_at t m ≡ 34 → n ≡ m + 1 → StringAt t i bs n
