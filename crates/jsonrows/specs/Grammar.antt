-- Values, members and elements of a JSON text, read from left to right into rows in order of first finishing; the leftmost place counts, and at one place the lower number (document 02, Wish 1). Assumes nothing.
use Rattle.std.specs.Prelude.{List, [], ◌∷◌, ◌++◌, Bool, true, false, ◌||◌, cond, ℕ, zero, suc, ◌+◌, ◌-◌, eqb, ltb, length}
use Rattle.std.proofs.Math.Option.{Option, none, some}
use Rattle.base.specs.Text.{byte_at, Got, got, fault, word_at}
use Rattle.classes.specs.Classes.{digit?}
use Rattle.model.specs.Lists.{eq_list, any}
use Rattle.model.specs.Table.{Row}
use Rattle.model.specs.Build.{find_row}
use Rattle.document.specs.Scalars.{kind_of, payload_of}
use Rattle.document.specs.declared.scalar.Scalar.{Scalar}
use Rattle.document.specs.declared.scalar.Scalar.TheVariants.{Bare, Flag, Name}
use Rattle.jsontext.specs.Spaces.{space_end}
use Rattle.jsontext.specs.Strings.{string_at}
use Rattle.jsontext.specs.Number.{number_at, as_scalar}
use Rattle.jsonrows.specs.Signature.{end, stop, other, item, null_leaf, flag_leaf, number_leaf, text_leaf, key_symbol}
use Rattle.jsonrows.specs.Keys.{find_text}
use Rattle.jsonrows.specs.Value.{number_text}

-- what a text is read against: the keys that the site lists, and the most rows
pub record Setting : Type 0 where
  pub keys : List (List ℕ)
  pub limit : ℕ

-- rows so far, and texts by number
pub record Built : Type 0 where
  pub rows : List Row
  pub texts : List (List ℕ)

abbrev pub built : List Row → List (List ℕ) → Built
built rows texts = record { rows = rows; texts = texts }

-- the row of what was read, the place after it and what is built so far; or a refusal's number and place
pub data Outcome : Type 0 where
  good : ℕ → ℕ → Built → Outcome
  refused : ℕ → ℕ → Outcome

-- ---- rows

abbrev pub leaf_row : ℕ → Scalar → Row
leaf_row s k = record { symbol = s; kind = kind_of k; payload = payload_of k; children = [] }

abbrev pub node_row : ℕ → List ℕ → Row
node_row s js = record { symbol = s; kind = 0; payload = 0; children = js }

abbrev pub place_row : ℕ → Row → ℕ → Built → Option ℕ → Outcome
place_row limit r next b (some i) = good i next b
place_row limit r next b none = cond (ltb (length b.rows) limit) (good (length b.rows) next (built (b.rows ++ r ∷ []) b.texts)) (refused 67 (next - 1))

-- the row's number, where there is one like it; else it is added; 67 where there is no room, at the byte that finishes the row, the one before `next`
unfoldable pub finish : ℕ → Row → ℕ → Built → Outcome
finish limit r next b = place_row limit r next b (find_row r b.rows)

-- a text's leaf
unfoldable pub finish_text : ℕ → List ℕ → ℕ → Built → Outcome
unfolding finish
finish_text limit bs next b =
    let (k, texts) = number_text bs b.texts in
    finish limit (leaf_row text_leaf (Name k)) next (built b.rows texts)

-- ---- leaves: a word, a string, a number

abbrev pub after_word : ℕ → ℕ → Built → Got Scalar → Outcome
after_word limit symbol b (got k n) = finish limit (leaf_row symbol k) n b
after_word limit symbol b (fault p) = refused 71 p

abbrev pub after_text : ℕ → Built → Got (List ℕ) → Outcome
after_text limit b (got bs n) = finish_text limit bs n b
after_text limit b (fault p) = refused 71 p

-- 73 at the first byte of a number that has no form, once it is whole
abbrev pub after_number : ℕ → ℕ → Built → Got (Option Scalar) → Outcome
after_number limit at b (got (some k) n) = finish limit (leaf_row number_leaf k) n b
after_number limit at b (got none n) = refused 73 at
after_number limit at b (fault p) = refused 71 p

-- a byte that a value can begin with
unfoldable pub opens? : ℕ → Bool
opens? c = any (eqb c) (123 ∷ 91 ∷ 34 ∷ 116 ∷ 102 ∷ 110 ∷ 45 ∷ []) || digit? c

-- a value past the last level
unfoldable pub no_value : List ℕ → ℕ → Built → Outcome
no_value t at b = refused (cond (opens? (byte_at t at)) 64 71) at

-- ---- objects and arrays, by readers of what they hold

abbrev pub Reader : Type 0
Reader = ℕ → Built → Outcome

-- a reader of members, after the keys before them
abbrev pub MemberReader : Type 0
MemberReader = List (List ℕ) → Reader

-- the closing mark and its leaf
unfoldable pub close_at : ℕ → List ℕ → ℕ → ℕ → Reader
close_at limit t mark leaf at b = elim (eqb (byte_at t at) mark) [ true ↦ finish limit (leaf_row leaf Bare) (at + 1) b | false ↦ refused 71 at ]

-- behind a value: the rest behind a comma, or the closing mark
unfoldable pub rest_at : ℕ → List ℕ → ℕ → ℕ → Reader → Reader
rest_at limit t mark leaf rest at b = elim (eqb (byte_at t at) 44) [ true ↦ rest (space_end t (at + 1)) b | false ↦ close_at limit t mark leaf at b ]

-- the row of a member or an element, once its rest is read
abbrev pub joined : ℕ → ℕ → List ℕ → Outcome → Outcome
joined limit symbol js (good r next b) = finish limit (node_row symbol (js ++ r ∷ [])) next b
joined limit symbol js (refused w p) = refused w p

-- behind a value: its rest, then the row of both, with what stands before them
abbrev pub after_value : ℕ → List ℕ → ℕ → ℕ → Reader → ℕ → List ℕ → Outcome → Outcome
after_value limit t mark leaf rest symbol js (good v next b) = joined limit symbol (js ++ v ∷ []) (rest_at limit t mark leaf rest (space_end t next) b)
after_value limit t mark leaf rest symbol js (refused w p) = refused w p

unfoldable pub element_by : ℕ → List ℕ → Reader → Reader → Reader
unfolding rest_at
element_by limit t value rest at b = after_value limit t 93 stop rest item [] (value at b)

-- a member's value behind its key and the colon, what stands before it being js
unfoldable pub member_by : ℕ → List ℕ → Reader → Reader → ℕ → List ℕ → ℕ → Built → Outcome
unfolding rest_at
member_by limit t value rest symbol js at b =
    elim (eqb (byte_at t at) 58) [
      | true ↦ after_value limit t 125 end rest symbol js (value (space_end t (at + 1)) b)
      | false ↦ refused 71 at
    ]

-- an unlisted key's leaf, then its value
abbrev pub after_key : ℕ → List ℕ → Reader → Reader → Outcome → Outcome
after_key limit t value rest (good k next b) = member_by limit t value rest other (k ∷ []) (space_end t next) b
after_key limit t value rest (refused w p) = refused w p

-- a whole key: 64 where it is unlisted and its text would stand past the last level, 72 where it stood before
unfoldable pub key_by : Setting → List ℕ → ℕ → Reader → MemberReader → List (List ℕ) → ℕ → List ℕ → ℕ → Built → Outcome
unfolding member_by
key_by S t l value rest seen at key next b =
    elim (find_text key S.keys) [
      | none ↦ elim (eqb l 0) [
        | true ↦ refused 64 at
        | false ↦ elim (any (eq_list key) seen) [ true ↦ refused 72 at | false ↦ after_key S.limit t value (rest (seen ++ key ∷ [])) (finish_text S.limit key next b) ]
      ]
      | some k ↦ elim (any (eq_list key) seen) [ true ↦ refused 72 at | false ↦ member_by S.limit t value (rest (seen ++ key ∷ [])) (key_symbol k) [] (space_end t next) b ]
    ]

-- one member or more: the first one's key, its value, the rest; values have l levels
unfoldable pub members_by : Setting → List ℕ → ℕ → Reader → MemberReader → MemberReader
unfolding key_by
members_by S t l value rest seen at b = elim (string_at t at) [ fault p ↦ refused 71 p | got key next ↦ key_by S t l value rest seen at key next b ]

-- behind an opening mark: the closing one and its leaf, or what the reader reads
unfoldable pub body_at : ℕ → List ℕ → ℕ → ℕ → Reader → Reader
body_at limit t mark leaf read at b = elim (eqb (byte_at t at) mark) [ true ↦ finish limit (leaf_row leaf Bare) (at + 1) b | false ↦ read at b ]

-- a value by its first byte
unfoldable pub value_by : Setting → List ℕ → MemberReader → Reader → Reader
unfolding body_at
value_by S t members elements at b =
    elim (eqb (byte_at t at) 123) [
      | true ↦ body_at S.limit t 125 end (members []) (space_end t (at + 1)) b
      | false ↦ elim (eqb (byte_at t at) 91) [
        | true ↦ body_at S.limit t 93 stop elements (space_end t (at + 1)) b
        | false ↦ elim (eqb (byte_at t at) 34) [
          | true ↦ after_text S.limit b (string_at t at)
          | false ↦ elim (eqb (byte_at t at) 116) [
            | true ↦ after_word S.limit flag_leaf b (word_at (Flag true) (116 ∷ 114 ∷ 117 ∷ 101 ∷ []) t at)
            | false ↦ elim (eqb (byte_at t at) 102) [
              | true ↦ after_word S.limit flag_leaf b (word_at (Flag false) (102 ∷ 97 ∷ 108 ∷ 115 ∷ 101 ∷ []) t at)
              | false ↦ elim (eqb (byte_at t at) 110) [
                | true ↦ after_word S.limit null_leaf b (word_at Bare (110 ∷ 117 ∷ 108 ∷ 108 ∷ []) t at)
                | false ↦ elim (eqb (byte_at t at) 45 || digit? (byte_at t at)) [ true ↦ after_number S.limit at b (as_scalar (number_at t at)) | false ↦ refused 71 at ]
              ]
            ]
          ]
        ]
      ]
    ]

-- ---- levels: the members and elements whose values have l of them, and a value of l

unfoldable mutual
  unfolding members_by element_by value_by

  pub members : ℕ → Setting → List ℕ → MemberReader
  members zero S t = members_by S t 0 (no_value t) (λ seen at b. refused 64 at)
  members (suc l) S t = members_by S t (suc l) (value_by S t (members l S t) (elements l S t)) (members l S t)

  pub elements : ℕ → Setting → List ℕ → Reader
  elements zero S t = element_by S.limit t (no_value t) (λ at b. refused 64 at)
  elements (suc l) S t = element_by S.limit t (value_by S t (members l S t) (elements l S t)) (elements l S t)

unfoldable pub value : ℕ → Setting → List ℕ → Reader
unfolding members
value zero S t = no_value t
value (suc l) S t = value_by S t (members l S t) (elements l S t)
