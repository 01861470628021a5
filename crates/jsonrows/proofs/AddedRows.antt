-- Rows stay where trees are added; and a value's texts are at most as many as its rows. Assumes nothing.
use mathlib.Core.Path.{◌≡◌, refl, sym, ap, subst, ◌∙◌}
use mathlib.Core.Logic.{⊎_elim}
use mathlib.Core.List.Memᴰ
use mathlib.Core.List.Memᴰ.{head as here}
use mathlib.Core.List.{List, [], ◌∷◌, ◌++◌, append_assoc, append-nil, Memᴰ as In}
use mathlib.Core.Option.{Option, none, some}
use Prim.Native.Nat.{ℕ, ◌<◌, ◌≤◌}
use native.Mathlib.Omega.{arith}
use lib.ListN.{length, length-append}
use Rattle.model.specs.Tree.{Tree, Forest, node, fnil, fcons}
use Rattle.model.specs.Table.{Row, no_row}
use Rattle.model.specs.Build.{find_row, placed, add_row, add_tree, add_forest, rows_of}
use Rattle.model.proofs.Rows.{in_get_d}
use Rattle.model.proofs.Build.{Found, find_ok}
use Rattle.model.proofs.Count.{pigeonhole}
use Rattle.document.specs.declared.scalar.Scalar.TheVariants.{Name}
use Rattle.jsonrows.specs.Signature.{other, item, text_leaf, key_symbol}
use Rattle.jsonrows.specs.Keys.{find_text}
use Rattle.jsonrows.specs.Value.{Value, Elements, Members, null, boolean, number, string, array, object, no_element, element, no_member, member, number_text, text_tree, node_tree, key_texts, member_tree, value_tree, elements_tree, members_tree}
use Rattle.jsonrows.specs.Grammar.{leaf_row, node_row}
use Rattle.jsonrows.proofs.TextNumbers.{text_number}

-- rows that go on from others
pub record Onward (rows after : List Row) : Type 0 where
  pub more : List Row
  pub is : after ≡ rows ++ more

onward_same : (rows : List Row) → Onward rows rows
onward_same rows = record { more = []; is = sym (append-nil rows) }

onward_on : {a b c : List Row} → Onward a b → Onward b c → Onward a c
onward_on {a} g h = record { more = g.more ++ h.more; is = h.is ∙ ap (◌++ h.more) g.is ∙ append_assoc a g.more h.more }

placed_onward : (rows : List Row) (r : Row) (o : Option ℕ) → Onward rows (placed rows r o).0
placed_onward rows r (some i) = onward_same rows
placed_onward rows r none = record { more = r ∷ []; is = refl }

-- rows go on where a row or a tree is added
pub row_onward : (rows : List Row) (r : Row) → Onward rows (add_row rows r).0
row_onward rows r = placed_onward rows r (find_row r rows)

mutual
  unfolding add_tree

  pub tree_onward : (x : Tree) (rows : List Row) → Onward rows (add_tree x rows).0
  tree_onward (node s k p f) rows = onward_on (forest_onward f rows) (row_onward (add_forest f rows).0 (record { symbol = s; kind = k; payload = p; children = (add_forest f rows).1 }))

  forest_onward : (f : Forest) (rows : List Row) → Onward rows (add_forest f rows).0
  forest_onward fnil rows = onward_same rows
  forest_onward (fcons t f) rows = onward_on (tree_onward t rows) (forest_onward f (add_tree t rows).0)

-- so there are as many or more
pub onward_longer : {a b : List Row} → Onward a b → length a ≤ length b
onward_longer {a} g = let k = length-append a g.more in let q = ap length g.is in omega arith

onward_in : {a b : List Row} {r : Row} → Onward a b → In r a → In r b
onward_in {r = r} g h = subst (In r) (sym g.is) (Memᴰ.append_left g.more h)

-- a row that was added stands among the rows
row_in : (rows : List Row) (r : Row) → In r (add_row rows r).0
row_in rows r = go (find_row r rows) (find_ok r rows)
  where
    go : (o : Option ℕ) → Found r rows o → In r (placed rows r o).0
    go (some i) h = subst (λ x. In x rows) h.1 (in_get_d no_row rows i h.0)
    go none h = Memᴰ.append_right rows (here refl)

-- each text has its leaf among the rows
record Held (rows : List Row) (texts : List (List ℕ)) : Type 0 where
  leaf : (k : ℕ) → k < length texts → In (leaf_row text_leaf (Name k)) rows

held_on : {rows after : List Row} {texts : List (List ℕ)} → Onward rows after → Held rows texts → Held after texts
held_on g h = record { leaf = λ k l. onward_in g (h.leaf k l) }

text_held : (bs : List ℕ) (rows : List Row) (texts : List (List ℕ)) → Held rows texts → Held (add_tree (text_tree (number_text bs texts).0) rows).0 (number_text bs texts).1
unfolding add_tree
text_held bs rows texts h =
    let r = leaf_row text_leaf (Name (number_text bs texts).0) in
    record { leaf = λ k l. ⊎_elim (λ m. onward_in (row_onward rows r) (h.leaf k m)) (λ e. subst (λ m. In (leaf_row text_leaf (Name m)) (add_row rows r).0) (sym e) (row_in rows r)) ((text_number bs texts).next k l) }

node_held : (s : ℕ) (x rest : Tree) (rows : List Row) {texts : List (List ℕ)} → Held (add_tree rest (add_tree x rows).0).0 texts → Held (add_tree (node_tree s (x ∷ rest ∷ [])) rows).0 texts
unfolding add_tree
node_held s x rest rows h = held_on (row_onward (add_tree rest (add_tree x rows).0).0 (node_row s ((add_tree x rows).1 ∷ (add_tree rest (add_tree x rows).0).1 ∷ []))) h

member_held : (key : List ℕ) (o : Option ℕ) (x rest : Tree) (texts texts₁ texts₂ : List (List ℕ)) → ((rows : List Row) → Held rows (key_texts key texts o) → Held (add_tree x rows).0 texts₁) → ((rows : List Row) → Held rows texts₁ → Held (add_tree rest rows).0 texts₂)
    → (rows : List Row) → Held rows texts → Held (add_tree (member_tree key texts o x rest) rows).0 texts₂
unfolding add_tree
member_held key (some k) x rest texts texts₁ texts₂ f g rows h = node_held (key_symbol k) x rest rows (g (add_tree x rows).0 (f rows h))
member_held key none x rest texts texts₁ texts₂ f g rows h =
    let first = add_tree (text_tree (number_text key texts).0) rows in
    let second = add_tree x first.0 in
    let third = add_tree rest second.0 in
    held_on (row_onward third.0 (node_row other (first.1 ∷ second.1 ∷ third.1 ∷ []))) (g second.0 (f first.0 (text_held key rows texts h)))

module _ (keys : List (List ℕ)) where
  mutual
    unfolding value_tree add_tree

    value_held : (v : Value) (texts : List (List ℕ)) (rows : List Row) → Held rows texts → Held (add_tree (value_tree keys v texts).0 rows).0 (value_tree keys v texts).1
    value_held null texts rows h = held_on (tree_onward (value_tree keys null texts).0 rows) h
    value_held (boolean b) texts rows h = held_on (tree_onward (value_tree keys (boolean b) texts).0 rows) h
    value_held (number n) texts rows h = held_on (tree_onward (value_tree keys (number n) texts).0 rows) h
    value_held (string bs) texts rows h = text_held bs rows texts h
    value_held (array vs) texts rows h = elements_held vs texts rows h
    value_held (object ms) texts rows h = members_held ms texts rows h

    elements_held : (vs : Elements) (texts : List (List ℕ)) (rows : List Row) → Held rows texts → Held (add_tree (elements_tree keys vs texts).0 rows).0 (elements_tree keys vs texts).1
    elements_held no_element texts rows h = held_on (tree_onward (elements_tree keys no_element texts).0 rows) h
    elements_held (element v vs) texts rows h =
        let (x, texts₁) = value_tree keys v texts in
        node_held item x (elements_tree keys vs texts₁).0 rows (elements_held vs texts₁ (add_tree x rows).0 (value_held v texts rows h))

    members_held : (ms : Members) (texts : List (List ℕ)) (rows : List Row) → Held rows texts → Held (add_tree (members_tree keys ms texts).0 rows).0 (members_tree keys ms texts).1
    members_held no_member texts rows h = held_on (tree_onward (members_tree keys no_member texts).0 rows) h
    members_held (member key v ms) texts rows h =
        let (x, texts₁) = value_tree keys v (key_texts key texts (find_text key keys)) in
        let (rest, texts₂) = members_tree keys ms texts₁ in
        member_held key (find_text key keys) x rest texts texts₁ texts₂ (λ rs g. value_held v (key_texts key texts (find_text key keys)) rs g) (λ rs g. members_held ms texts₁ rs g) rows h

  -- THE TEXTS OF A VALUE ARE AT MOST AS MANY AS ITS ROWS.
  pub few_texts : (v : Value) → length (value_tree keys v []).1 ≤ length (rows_of (value_tree keys v []).0)
  unfolding rows_of
  few_texts v =
      let h = value_held v [] [] (record { leaf = λ k l. let z : ⊥ = omega arith in absurd z }) in
      pigeonhole (λ k r. r ≡ leaf_row text_leaf (Name k)) (length (value_tree keys v []).1) (add_tree (value_tree keys v []).0 []).0
      (λ k l. (leaf_row text_leaf (Name k), h.leaf k l, refl))
      (λ j k r lj lk e f. ap (λ (x : Row). x.payload) (sym e ∙ f))
