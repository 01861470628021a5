-- The tree of a JSON text, and what rows are that were read from it. Assumes nothing.
use Rattle.std.specs.Prelude.{◌≡◌, ◌↔◌, true, List, [], ◌∷◌, ◌++◌, ℕ, ◌<◌, ◌≤◌, eqb, length, get_or}
use Rattle.std.proofs.Math.Option.{Option, none, some}
use Rattle.model.specs.Lists.{only}
use Rattle.model.specs.Tree.{Tree, Forest, node, fnil, fcons, levels}
use Rattle.model.specs.Limits.{max_levels}
use Rattle.model.specs.Automaton.{Automaton}
use Rattle.model.specs.Table.{Row, tree_of, SoundTable}
use Rattle.model.specs.Build.{rows_of}
use Rattle.automaton.specs.Stored.{decode}
use Rattle.automaton.specs.Check.{check_of}
use Rattle.document.specs.Rows.{encode_rows}
use Rattle.document.specs.Check.{document_check_of}
use Rattle.names.specs.Lines.{lines}
use Rattle.jsonrows.specs.Signature.{text_leaf, Over}
use Rattle.jsonrows.specs.Keys.{keys_fit?, find_text}
use Rattle.jsonrows.specs.Value.{Value, Elements, Members, null, boolean, number, string, array, object, no_element, element, no_member, member, value_tree, formed?}
use Rattle.jsonrows.specs.Productions.{JsonText}

-- The tree of a text by the listed keys: that of the value that the text is by RFC 8259, where its numbers have a form and no key stands twice in one object.
pub record TreeOfText (keys : List (List ℕ)) (t : List ℕ) (tree : Tree) : Type 0 where
  pub value : Value
  pub text : JsonText t value
  pub formed : formed? value ≡ true
  pub is : (value_tree keys value []).0 ≡ tree

-- The text has a tree by the listed keys, of at most so many levels, and the rows are its table, at most so many, in order of first finishing.
pub record TableOfText (keys : List (List ℕ)) (most-levels most-rows : ℕ) (t : List ℕ) (rows : List Row) : Type 0 where
  pub tree : Tree
  pub text_is : TreeOfText keys t tree
  pub rows_are : rows ≡ rows_of tree
  pub low : levels tree ≤ most-levels
  pub few : length rows ≤ most-rows

-- The text has a tree by the listed keys, of at most 256 levels, and the rows are its table in order of first finishing: a sound one of every automaton that has the keys' symbols, whose cells pass 11 to 17 with every set of them.
pub record RowsOfText (list text : List ℕ) (rows : List Row) : Type 0 where
  pub keys_fit : keys_fit? list ≡ true
  pub tree : Tree
  pub text_is : TreeOfText (lines list) text tree
  pub first_finishing : rows ≡ rows_of tree
  pub same_tree : tree_of rows ≡ tree
  pub low : levels tree ≤ max_levels
  pub sound : (A : Automaton) → Over (length (lines list)) A → SoundTable A rows
  pub passes : (set : List ℕ) → check_of set ≡ 0 → Over (length (lines list)) (decode set) → document_check_of set (encode_rows rows) ≡ 0

-- ---- texts and their numbers, each in the order of the document

-- a key that is not listed becomes a leaf
abbrev pub key_text : List ℕ → Option ℕ → List (List ℕ)
key_text key none = key ∷ []
key_text key (some k) = []

-- the texts that become leaves: strings, and keys that are not listed
unfoldable mutual
  pub leaf_texts : List (List ℕ) → Value → List (List ℕ)
  leaf_texts keys null = []
  leaf_texts keys (boolean b) = []
  leaf_texts keys (number n) = []
  leaf_texts keys (string bs) = bs ∷ []
  leaf_texts keys (array vs) = elements_texts keys vs
  leaf_texts keys (object ms) = members_texts keys ms

  pub elements_texts : List (List ℕ) → Elements → List (List ℕ)
  elements_texts keys no_element = []
  elements_texts keys (element v vs) = leaf_texts keys v ++ elements_texts keys vs

  pub members_texts : List (List ℕ) → Members → List (List ℕ)
  members_texts keys no_member = []
  members_texts keys (member key v ms) = key_text key (find_text key keys) ++ (leaf_texts keys v ++ members_texts keys ms)

-- the numbers of a tree's text leaves
unfoldable mutual
  pub text_numbers : Tree → List ℕ
  text_numbers (node s k p f) = only (eqb s text_leaf) (p ∷ []) ++ forest_numbers f

  pub forest_numbers : Forest → List ℕ
  forest_numbers fnil = []
  forest_numbers (fcons t f) = text_numbers t ++ forest_numbers f

-- Each text has a number; two have the same exactly when they are equal; and the numbers count from 0 in the order of first appearance.
pub record TextsNumbered (texts : List (List ℕ)) (numbers : List ℕ) : Type 0 where
  pub as_many : length numbers ≡ length texts
  pub equal : (i j : ℕ) → i < length texts → j < length texts → (get_or numbers i 0 ≡ get_or numbers j 0) ↔ (get_or texts i [] ≡ get_or texts j [])
  pub in_order : (i : ℕ) → i < length texts → (m : ℕ) → m < get_or numbers i 0 → (j : ℕ) × (j < i) × (get_or numbers j 0 ≡ m)
