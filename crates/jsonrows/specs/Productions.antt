-- The productions of RFC 8259, sections 2 to 5, as relations: the bytes from place i up to place n of a text are a value. White space stands around the structural characters, outside the values. Assumes nothing.
use Rattle.std.specs.Prelude.{◌≡◌, true, false, List, [], ◌∷◌, ℕ, ◌+◌, length}
use Rattle.base.specs.Text.{byte_at}
use Rattle.jsontext.specs.Productions.{Spaces, NumberAt, StringAt}
use Rattle.jsonrows.specs.Value.{Value, Elements, Members, null, boolean, number, string, array, object, no_element, element, no_member, member}

-- the word's bytes stand from i up to n
pub data WordAt (t : List ℕ) : ℕ → List ℕ → ℕ → Type 0 where
  word_end : {i : ℕ} → WordAt t i [] i
  word_byte : {i n b : ℕ} {w : List ℕ} → byte_at t i ≡ b → WordAt t (i + 1) w n → WordAt t i (b ∷ w) n

-- a structural character with the white space after it
pub record MarkAt (t : List ℕ) (b i n : ℕ) : Type 0 where
  pub mark : byte_at t i ≡ b
  pub spaces : Spaces t (i + 1) n

mutual
  -- value = false / null / true / object / array / number / string
  pub data ValueAt (t : List ℕ) : ℕ → Value → ℕ → Type 0 where
    is_null : {i n : ℕ} → WordAt t i (110 ∷ 117 ∷ 108 ∷ 108 ∷ []) n → ValueAt t i null n
    is_true : {i n : ℕ} → WordAt t i (116 ∷ 114 ∷ 117 ∷ 101 ∷ []) n → ValueAt t i (boolean true) n
    is_false : {i n : ℕ} → WordAt t i (102 ∷ 97 ∷ 108 ∷ 115 ∷ 101 ∷ []) n → ValueAt t i (boolean false) n
    is_number : {i n : ℕ} {m : _} → NumberAt t i m n → ValueAt t i (number m) n
    is_string : {i n : ℕ} {bs : List ℕ} → StringAt t i bs n → ValueAt t i (string bs) n
    is_array : {i j n : ℕ} {vs : Elements} → MarkAt t 91 i j → ElementsAt t j vs n → ValueAt t i (array vs) n
    is_object : {i j n : ℕ} {ms : Members} → MarkAt t 123 i j → MembersAt t j ms n → ValueAt t i (object ms) n

  -- array = begin-array [ value *( value-separator value ) ] end-array, from behind its first character
  pub data ElementsAt (t : List ℕ) : ℕ → Elements → ℕ → Type 0 where
    no_elements : {i n : ℕ} → byte_at t i ≡ 93 → n ≡ i + 1 → ElementsAt t i no_element n
    some_elements : {i n : ℕ} {vs : Elements} → SomeElements t i vs n → ElementsAt t i vs n

  -- value *( value-separator value ) end-array
  pub data SomeElements (t : List ℕ) : ℕ → Elements → ℕ → Type 0 where
    last_element : {i j k n : ℕ} {v : Value} → ValueAt t i v j → Spaces t j k → byte_at t k ≡ 93 → n ≡ k + 1 → SomeElements t i (element v no_element) n
    more_elements : {i j k l n : ℕ} {v : Value} {vs : Elements} → ValueAt t i v j → Spaces t j k → MarkAt t 44 k l → SomeElements t l vs n → SomeElements t i (element v vs) n

  -- object = begin-object [ member *( value-separator member ) ] end-object, from behind its first character
  pub data MembersAt (t : List ℕ) : ℕ → Members → ℕ → Type 0 where
    no_members : {i n : ℕ} → byte_at t i ≡ 125 → n ≡ i + 1 → MembersAt t i no_member n
    some_members : {i n : ℕ} {ms : Members} → SomeMembers t i ms n → MembersAt t i ms n

  -- member *( value-separator member ) end-object
  pub data SomeMembers (t : List ℕ) : ℕ → Members → ℕ → Type 0 where
    last_member : {i j k n : ℕ} {key : List ℕ} {v : Value} → MemberAt t i key v j → Spaces t j k → byte_at t k ≡ 125 → n ≡ k + 1 → SomeMembers t i (member key v no_member) n
    more_members : {i j k l n : ℕ} {key : List ℕ} {v : Value} {ms : Members} → MemberAt t i key v j → Spaces t j k → MarkAt t 44 k l → SomeMembers t l ms n → SomeMembers t i (member key v ms) n

  -- member = string name-separator value
  pub data MemberAt (t : List ℕ) : ℕ → List ℕ → Value → ℕ → Type 0 where
    pair : {i j k l n : ℕ} {key : List ℕ} {v : Value} → StringAt t i key j → Spaces t j k → MarkAt t 58 k l → ValueAt t l v n → MemberAt t i key v n

-- JSON-text = ws value ws
pub record JsonText (t : List ℕ) (v : Value) : Type 0 where
  pub first : ℕ
  pub next : ℕ
  pub before : Spaces t 0 first
  pub value : ValueAt t first v next
  pub after : Spaces t next (length t)
