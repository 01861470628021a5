-- What stands only in conclusions about trees and answers, computed: the signature's numbers of children, the texts of a value and their numbers, the answer, and the cells left behind. Assumes nothing.
use mathlib.Core.Path.{◌≡◌, refl, sym, ap, subst, ◌∙◌}
use mathlib.Core.List.{List, [], ◌∷◌, map}
use Prim.Native.Nat.{ℕ}
use lib.ListN.{replicate}
use Rattle.model.specs.Lists.{tab}
use Rattle.model.specs.Tree.{Tree, node, forest}
use Rattle.model.specs.Table.{Row, tree_of}
use Rattle.model.proofs.Build.{table}
use Rattle.jsonrows.specs.Signature.{json_arity}
use Rattle.jsonrows.specs.Value.{Value, null, string, array, object, no_element, element, no_member, member, value_tree}
use Rattle.jsonrows.specs.Meaning.{TreeOfText, leaf_texts, text_numbers}
use Rattle.jsonrows.specs.Read.{rows_read, refused_at, read_of}
use Rattle.jsonrows.specs.Answer.{read_answer, space_after}
use Rattle.std.specs.Prelude.{Ok, Err}
use Rattle.base.specs.declared.refusal.Refusal.TheVariants.{KeyRepeated}
use Rattle.jsonrows.proofs.Computing.{bytes, within, answered}
use Rattle.jsonrows.proofs.ReadTexts.{text_read}
use Rattle.jsonrows.proofs.Exactly.{tree_unique}

-- end/0, stop/0, other/3, item/2, null, flag, number and text /0, then keys /2
arities : tab 10 json_arity ≡ 0 ∷ 0 ∷ 3 ∷ 2 ∷ 0 ∷ 0 ∷ 0 ∷ 0 ∷ 2 ∷ 2 ∷ []
unfolding json_arity
arities = refl

-- the listed keys, and a text
abbrev keys : List (List ℕ)
keys = (97 ∷ []) ∷ []

abbrev document : List ℕ
document = bytes "{\"a\":\"b\",\"c\":[\"a\",null],\"d\":{\"c\":\"b\"}}"

-- the value that it is
abbrev example : Value
example =
    object
    (member (97 ∷ []) (string (98 ∷ []))
    (member (99 ∷ []) (array (element (string (97 ∷ [])) (element null no_element)))
    (member (100 ∷ []) (object (member (99 ∷ []) (string (98 ∷ [])) no_member)) no_member)))

abbrev leaf : ℕ → Tree
leaf s = node s 0 0 (forest [])

abbrev text : ℕ → Tree
text k = node 7 4 k (forest [])

abbrev over : ℕ → List Tree → Tree
over s ts = node s 0 0 (forest ts)

-- its tree
abbrev tree : Tree
tree = over 8 (text 0 ∷ over 2 (text 1 ∷ over 3 (text 2 ∷ over 3 (leaf 4 ∷ leaf 1 ∷ []) ∷ []) ∷ over 2 (text 3 ∷ over 2 (text 1 ∷ text 0 ∷ leaf 0 ∷ []) ∷ leaf 0 ∷ []) ∷ []) ∷ [])

-- the tree of the value, its texts in the order of the document, which are b, c, a, d, c, b, and their numbers
of_value : ((value_tree keys example []).0 ≡ tree) × (leaf_texts keys example ≡ map (λ b. b ∷ []) (bytes "bcadcb")) × (text_numbers tree ≡ 0 ∷ 1 ∷ 2 ∷ 3 ∷ 1 ∷ 0 ∷ [])
unfolding answered value_tree leaf_texts text_numbers
of_value = (refl, refl, refl)

-- the rows that the text is read to
rows : List Row
unfolding answered
rows = elim (within 256 1024 keys document) [ rows_read rs ↦ rs | refused_at w p ↦ [] ]

-- THE TEXT HAS THIS TREE, and no other.
has_tree : TreeOfText keys document tree
unfolding rows
has_tree =
    let h = text_read 256 (record { keys = keys; limit = 1024 }) document rows refl in
    let same : h.tree ≡ tree = sym (table h.tree).tree ∙ sym (ap tree_of h.rows_are) in
    subst (TreeOfText keys document) same h.text_is

only_tree : (x : Tree) → TreeOfText keys document x → x ≡ tree
only_tree x h = tree_unique keys document x tree h has_tree

-- the answer: rows, or a refusal and its place
answers : (read_answer (Ok 3) ≡ rows_read 3) × (read_answer (Err (record { refusal = KeyRepeated; place = 7 })) ≡ refused_at 72 7)
answers = (refl, refl)

-- [true,7] into 55 cells: the rows of the flag, the count, stop and two items at the front, each with its symbol, children, kind and payload, and the rest as it was; all as it was where the text is refused
left_behind : (space_after (read_of [] (bytes "[true,7]") 55) (replicate 55 9)
    ≡ 5 ∷ 65535 ∷ 65535 ∷ 65535 ∷ 65535 ∷ 1 ∷ 1 ∷ 0 ∷ 0 ∷ 0
    ∷ 6 ∷ 65535 ∷ 65535 ∷ 65535 ∷ 65535 ∷ 2 ∷ 7 ∷ 0 ∷ 0 ∷ 0
    ∷ 1 ∷ 65535 ∷ 65535 ∷ 65535 ∷ 65535 ∷ 0 ∷ 0 ∷ 0 ∷ 0 ∷ 0
    ∷ 3 ∷ 1 ∷ 2 ∷ 65535 ∷ 65535 ∷ 0 ∷ 0 ∷ 0 ∷ 0 ∷ 0
    ∷ 3 ∷ 0 ∷ 3 ∷ 65535 ∷ 65535 ∷ 0 ∷ 0 ∷ 0 ∷ 0 ∷ 0
    ∷ replicate 5 9)
    × (space_after (read_of [] (bytes "[true,7") 55) (replicate 55 9) ≡ replicate 55 9)
unfolding answered
left_behind = (refl, refl)
