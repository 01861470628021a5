-- Strings and numbers of the settled readings of document 02, Wish 1, computed: where 71 stands, and what is read. Assumes nothing.
use mathlib.Core.Path.{◌≡◌, refl}
use mathlib.Core.List.{List, [], ◌∷◌, map}
use mathlib.Core.Option.{none, some}
use Prim.Native.Char.{code}
use Prim.Native.Nat.{ℕ}
use Prim.Native.String.{String, [] as end, ◌∷◌ as ◌then◌}
use lib.Count.{count_trailing_zeros}
use lib.Ieee.{binary64, nan_bits, round, neg, div, of_int, of_bits, to_bits, size, units, odd, span, climb, of_fields}
use Rattle.model.specs.Table.{one_zero}
use Rattle.classes.specs.Classes.{digit?, either_hex_digit?, control?}
use Rattle.base.specs.Text.{got, fault}
use Rattle.document.specs.Scalars.{rate_of}
use Rattle.document.specs.declared.scalar.Scalar.TheVariants.{Count, Rate}
use Rattle.jsontext.specs.Utf8.{pass_at, sequence_in, sequence_at, utf8}
use Rattle.jsontext.specs.Strings.{simple, hex_value, hex_from, dee?, low?, first_unit, second_unit, pair_at, unicode_at, escape_at, piece_at, string_from, string_at}
use Rattle.jsontext.specs.Number.{digits_from, some_digits, whole_at, sign_end, exponent_at, fraction_at, number_at, rate, count?, decimal?, number_scalar, as_scalar}

-- the bytes of a text of ASCII
bytes : String → List ℕ
bytes end = []
bytes (c then s) = code c ∷ bytes s

-- 71 inside strings: E0 80; C3 before the closing quote; a low surrogate first; a high one before the closing quote, another escape, no surrogate, another high one. No string at all: a byte order mark. A string with each kind of char
strings : map (λ t. string_at t 0)
    ((34 ∷ 224 ∷ 128 ∷ []) ∷ (34 ∷ 195 ∷ 34 ∷ []) ∷ bytes "\"\\uDC00\"" ∷ bytes "\"\\ud800\"" ∷ bytes "\"\\ud800\\n\"" ∷ bytes "\"\\ud800\\u0041\"" ∷ bytes "\"\\ud800\\ud800\"" ∷ (239 ∷ 187 ∷ 191 ∷ 34 ∷ 34 ∷ [])
    ∷ (34 ∷ 97 ∷ 195 ∷ 169 ∷ bytes "\\/\\n\\u20AC\\ud83d\\ude00\"") ∷ [])
    ≡ fault 2 ∷ fault 2 ∷ fault 4 ∷ fault 7 ∷ fault 8 ∷ fault 9 ∷ fault 10 ∷ fault 0 ∷ got (97 ∷ 195 ∷ 169 ∷ 47 ∷ 10 ∷ 226 ∷ 130 ∷ 172 ∷ 240 ∷ 159 ∷ 152 ∷ 128 ∷ []) 27 ∷ []
unfolding bytes digit? either_hex_digit? control? pass_at sequence_in sequence_at utf8 simple hex_value hex_from dee? low? first_unit second_unit pair_at unicode_at escape_at piece_at string_from string_at
strings = refl

-- 71: a digit after 0, no digit in an exponent. 73, which is no scalar: an exponent, 16 digits, a count of 2^64. A number goes as far as it can; -0 is a rate
numbers : map (λ t. as_scalar (number_at t 0))
    (bytes "01" ∷ bytes "1e+" ∷ bytes "1e5x" ∷ bytes "1e5" ∷ bytes "0.123456789012345" ∷ bytes "18446744073709551616" ∷ bytes "18446744073709551615" ∷ bytes "1x" ∷ bytes "-0" ∷ bytes "-12.5]" ∷ [])
    ≡ fault 1 ∷ fault 3 ∷ got none 3 ∷ got none 3 ∷ got none 17 ∷ got none 20 ∷ got (some (Count 18446744073709551615)) 20 ∷ got (some (Count 1)) 1 ∷ got (some (Rate (of_bits binary64 0))) 2
    ∷ got (some (Rate (of_bits binary64 0xC029000000000000))) 5 ∷ []
unfolding bytes digit? digits_from some_digits whole_at sign_end exponent_at fraction_at number_at rate count? decimal? number_scalar rate_of one_zero nan_bits count_trailing_zeros round neg div of_int of_bits to_bits size units odd span climb of_fields
numbers = refl

-- the bytes of a code point at both ends of each length: U+007F; U+0080, U+07FF; U+0800, U+FFFF; U+10000, U+10FFFF
code_points : map utf8 (0x7F ∷ 0x80 ∷ 0x7FF ∷ 0x800 ∷ 0xFFFF ∷ 0x10000 ∷ 0x10FFFF ∷ [])
    ≡ (0x7F ∷ []) ∷ (0xC2 ∷ 0x80 ∷ []) ∷ (0xDF ∷ 0xBF ∷ []) ∷ (0xE0 ∷ 0xA0 ∷ 0x80 ∷ []) ∷ (0xEF ∷ 0xBF ∷ 0xBF ∷ []) ∷ (0xF0 ∷ 0x90 ∷ 0x80 ∷ 0x80 ∷ []) ∷ (0xF4 ∷ 0x8F ∷ 0xBF ∷ 0xBF ∷ []) ∷ []
unfolding utf8
code_points = refl
