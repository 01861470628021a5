-- Readings that compute, with every definition on the way open. Assumes nothing.
use mathlib.Core.List.{List, [], ◌∷◌}
use Prim.Native.Char.{code}
use Prim.Native.Nat.{ℕ}
use Prim.Native.String.{String, [] as end, ◌∷◌ as ◌then◌}
use lib.Count.{count_trailing_zeros}
use lib.Ieee.{nan_bits, round, neg, div, of_int, of_bits, to_bits, size, units, odd, span, climb, of_fields}
use lib.ListN.{length}
use Rattle.base.specs.Text.{leading, word_bytes, word_at}
use Rattle.classes.specs.Classes.{digit?, either_hex_digit?, space?, control?}
use Rattle.model.specs.Table.{Row, one_zero}
use Rattle.document.specs.Scalars.{rate_of}
use Rattle.names.specs.Lines.{lines}
use Rattle.jsontext.specs.Utf8.{pass_at, sequence_in, sequence_at, utf8}
use Rattle.jsontext.specs.Strings.{simple, hex_value, hex_from, dee?, low?, first_unit, second_unit, pair_at, unicode_at, escape_at, piece_at, string_from, string_at}
use Rattle.jsontext.specs.Spaces.{space_end}
use Rattle.jsontext.specs.Number.{digits_from, some_digits, whole_at, sign_end, exponent_at, fraction_at, number_at, rate, count?, decimal?, number_scalar}
use Rattle.jsonrows.specs.Keys.{key?, apart?, keys_fit?, find_text}
use Rattle.jsonrows.specs.Grammar.{finish, finish_text, opens?, no_value, close_at, rest_at, element_by, member_by, key_by, members_by, body_at, value_by, members, elements, value}
use Rattle.jsonrows.specs.Read.{Reading, reading_map, read_text, read_of}

-- the bytes of a text of ASCII
unfoldable pub bytes : String → List ℕ
bytes end = []
bytes (c then s) = code c ∷ bytes s

-- a text by the listed keys, of at most so many levels and rows
unfoldable pub within : ℕ → ℕ → List (List ℕ) → List ℕ → Reading (List Row)
unfolding bytes leading word_bytes word_at digit? either_hex_digit? space? control? one_zero rate_of nan_bits count_trailing_zeros round neg div of_int of_bits to_bits size units odd span climb of_fields pass_at sequence_in sequence_at utf8 simple hex_value hex_from dee? low? first_unit second_unit pair_at unicode_at escape_at piece_at string_from string_at space_end digits_from some_digits whole_at sign_end exponent_at fraction_at number_at rate count? decimal? number_scalar find_text finish finish_text opens? no_value close_at rest_at element_by member_by key_by members_by body_at value_by members elements value read_text
within levels rows keys t = read_text levels (record { keys = keys; limit = rows }) t

-- what a reading by a key list into so many cells answers, as the contract of `read` has it: the number of rows, or a refusal and its place
unfoldable pub answered : List ℕ → List ℕ → ℕ → Reading ℕ
unfolding within lines key? apart? keys_fit? read_of
answered list t cells = reading_map length (read_of list t cells)
