-- JSON's values, and the tree of each over the fixed signature (document 02, Wish 1). Assumes nothing.
use Rattle.std.specs.Prelude.{List, [], ◌∷◌, ◌++◌, Bool, true, false, not, ◌&&◌, ℕ, length}
use Rattle.std.proofs.Math.Option.{Option, none, some}
use Rattle.model.specs.Lists.{any, eq_list}
use Rattle.model.specs.Tree.{Tree, node, forest}
use Rattle.document.specs.Scalars.{kind_of, payload_of}
use Rattle.document.specs.declared.scalar.Scalar.{Scalar}
use Rattle.document.specs.declared.scalar.Scalar.TheVariants.{Bare, Flag, Name}
use Rattle.jsontext.specs.Number.{Number, number_scalar}
use Rattle.jsonrows.specs.Signature.{end, stop, other, item, null_leaf, flag_leaf, number_leaf, text_leaf, key_symbol}
use Rattle.jsonrows.specs.Keys.{find_text}

-- a value: the members of an object have decoded keys
mutual
  pub data Value : Type 0 where
    null : Value
    boolean : Bool → Value
    number : Number → Value
    string : List ℕ → Value
    array : Elements → Value
    object : Members → Value

  pub data Elements : Type 0 where
    no_element : Elements
    element : Value → Elements → Elements

  pub data Members : Type 0 where
    no_member : Members
    member : List ℕ → Value → Members → Members

-- a number has the form of a count or of a rate (else 73)
abbrev pub some? : {A : Type 0} → Option A → Bool
some? none = false
some? (some a) = true

-- the scalar of a number; bare for one that has no form
abbrev pub scalar_or : Option Scalar → Scalar
scalar_or none = Bare
scalar_or (some s) = s

-- the number of a text, and the texts by number after it: a new one gets the next number
abbrev pub numbered : List ℕ → List (List ℕ) → Option ℕ → ℕ × List (List ℕ)
numbered bs texts (some k) = (k, texts)
numbered bs texts none = (length texts, texts ++ bs ∷ [])

abbrev pub number_text : List ℕ → List (List ℕ) → ℕ × List (List ℕ)
number_text bs texts = numbered bs texts (find_text bs texts)

abbrev pub leaf_tree : ℕ → Scalar → Tree
leaf_tree s k = node s (kind_of k) (payload_of k) (forest [])

abbrev pub node_tree : ℕ → List Tree → Tree
node_tree s ts = node s 0 0 (forest ts)

-- a text's leaf, by its number
abbrev pub text_tree : ℕ → Tree
text_tree k = leaf_tree text_leaf (Name k)

-- the texts after a key: one that is listed, on some line, takes no number
abbrev pub key_texts : List ℕ → List (List ℕ) → Option ℕ → List (List ℕ)
key_texts key texts (some k) = texts
key_texts key texts none = (number_text key texts).1

-- a listed key has a symbol of its own, another is a text in front of its value
abbrev pub member_tree : List ℕ → List (List ℕ) → Option ℕ → Tree → Tree → Tree
member_tree key texts (some k) x rest = node_tree (key_symbol k) (x ∷ rest ∷ [])
member_tree key texts none x rest = node_tree other (text_tree (number_text key texts).0 ∷ x ∷ rest ∷ [])

-- the tree of a value by the listed keys, after texts that have their numbers: keys and values are met in the order of the document
unfoldable mutual
  pub value_tree : List (List ℕ) → Value → List (List ℕ) → Tree × List (List ℕ)
  value_tree keys null texts = (leaf_tree null_leaf Bare, texts)
  value_tree keys (boolean b) texts = (leaf_tree flag_leaf (Flag b), texts)
  value_tree keys (number n) texts = (leaf_tree number_leaf (scalar_or (number_scalar n)), texts)
  value_tree keys (string bs) texts = let (k, texts') = number_text bs texts in (text_tree k, texts')
  value_tree keys (array vs) texts = elements_tree keys vs texts
  value_tree keys (object ms) texts = members_tree keys ms texts

  pub elements_tree : List (List ℕ) → Elements → List (List ℕ) → Tree × List (List ℕ)
  elements_tree keys no_element texts = (leaf_tree stop Bare, texts)
  elements_tree keys (element v vs) texts =
      let (x, texts₁) = value_tree keys v texts in
      let (rest, texts₂) = elements_tree keys vs texts₁ in
      (node_tree item (x ∷ rest ∷ []), texts₂)

  pub members_tree : List (List ℕ) → Members → List (List ℕ) → Tree × List (List ℕ)
  members_tree keys no_member texts = (leaf_tree end Bare, texts)
  members_tree keys (member key v ms) texts =
      let (x, texts₁) = value_tree keys v (key_texts key texts (find_text key keys)) in
      let (rest, texts₂) = members_tree keys ms texts₁ in
      (member_tree key texts (find_text key keys) x rest, texts₂)

-- every number has a form (else 73), and no key stands twice in one object (else 72), after keys that stood before
unfoldable mutual
  pub formed? : Value → Bool
  formed? null = true
  formed? (boolean b) = true
  formed? (number n) = some? (number_scalar n)
  formed? (string bs) = true
  formed? (array vs) = elements_formed? vs
  formed? (object ms) = members_formed? [] ms

  pub elements_formed? : Elements → Bool
  elements_formed? no_element = true
  elements_formed? (element v vs) = formed? v && elements_formed? vs

  pub members_formed? : List (List ℕ) → Members → Bool
  members_formed? seen no_member = true
  members_formed? seen (member key v ms) = not (any (eq_list key) seen) && (formed? v && members_formed? (seen ++ key ∷ []) ms)
