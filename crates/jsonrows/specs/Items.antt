-- Members and elements from their values on, as the reader takes them together. Assumes nothing.
use Rattle.std.specs.Prelude.{Bool, true, false, ◌||◌, List, [], ◌∷◌, ℕ, zero, suc, eqb}
use Rattle.base.specs.Text.{byte_at, word_at}
use Rattle.classes.specs.Classes.{digit?}
use Rattle.document.specs.declared.scalar.Scalar.TheVariants.{Bare, Flag}
use Rattle.jsontext.specs.Strings.{string_at}
use Rattle.jsontext.specs.Number.{number_at, as_scalar}
use Rattle.jsonrows.specs.Signature.{end, stop, null_leaf, flag_leaf}
use Rattle.jsonrows.specs.Grammar.{Setting, refused, Reader, MemberReader, after_word, after_text, after_number, after_value, members, elements, value}
use Rattle.jsonrows.specs.State.{key_rows}

-- what closes an object and an array, and its leaf
abbrev pub mark_of : Bool → ℕ
mark_of true = 125
mark_of false = 93

abbrev pub leaf_of : Bool → ℕ
leaf_of true = end
leaf_of false = stop

-- the members and the elements behind those whose values have l levels
abbrev pub members_below : ℕ → Setting → List ℕ → MemberReader
members_below zero S t = λ seen at b. refused 64 at
members_below (suc l) S t = members l S t

abbrev pub elements_below : ℕ → Setting → List ℕ → Reader
elements_below zero S t = λ at b. refused 64 at
elements_below (suc l) S t = elements l S t

-- the rest behind a value with l levels: of an object, after the keys `seen`, or of an array
abbrev pub rest_of : Bool → ℕ → Setting → List ℕ → List (List ℕ) → Reader
rest_of true l S t seen = members_below l S t seen
rest_of false l S t seen = elements_below l S t

-- the items of an object behind the keys `seen`, or of an array
abbrev pub list_at : Bool → ℕ → Setting → List ℕ → List (List ℕ) → Reader
list_at true l S t seen = members l S t seen
list_at false l S t seen = elements l S t

-- one value alone, or items
abbrev pub items_at : Bool → Bool → ℕ → Setting → List ℕ → List (List ℕ) → Reader
items_at true object l S t seen = value l S t
items_at false object l S t seen = list_at object l S t seen

-- a member behind its key, or an element: its value, its rest, its row
abbrev pub item_at : Bool → ℕ → Setting → List ℕ → List (List ℕ) → ℕ → ℕ → Reader
item_at object l S t seen symbol key at b = after_value S.limit t (mark_of object) (leaf_of object) (rest_of object l S t seen) symbol (key_rows symbol key) (value l S t at b)

-- a value that is no object and no array, as the end of `value_by` has it
unfoldable pub plain_at : ℕ → List ℕ → Reader
plain_at limit t at b =
    elim (eqb (byte_at t at) 34) [
      | true ↦ after_text limit b (string_at t at)
      | false ↦ elim (eqb (byte_at t at) 116) [
        | true ↦ after_word limit flag_leaf b (word_at (Flag true) (116 ∷ 114 ∷ 117 ∷ 101 ∷ []) t at)
        | false ↦ elim (eqb (byte_at t at) 102) [
          | true ↦ after_word limit flag_leaf b (word_at (Flag false) (102 ∷ 97 ∷ 108 ∷ 115 ∷ 101 ∷ []) t at)
          | false ↦ elim (eqb (byte_at t at) 110) [
            | true ↦ after_word limit null_leaf b (word_at Bare (110 ∷ 117 ∷ 108 ∷ 108 ∷ []) t at)
            | false ↦ elim (eqb (byte_at t at) 45 || digit? (byte_at t at)) [ true ↦ after_number limit at b (as_scalar (number_at t at)) | false ↦ refused 71 at ]
          ]
        ]
      ]
    ]
