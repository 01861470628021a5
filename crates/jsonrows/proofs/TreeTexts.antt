-- The text leaves of a value's tree: their numbers are those of the value's texts. Assumes nothing.
use mathlib.Core.Path.{◌≡◌, refl, sym, ap, subst, ◌∙◌}
use mathlib.Core.Logic.{⊎_elim}
use mathlib.Core.Bool.{false}
use mathlib.Core.List.{List, [], ◌∷◌, ◌++◌, append-nil}
use mathlib.Core.Option.{Option, none, some}
use Prim.Native.Nat.{ℕ, ◌+◌, ◌≤◌}
use native.Mathlib.Omega.{arith}
use borrow.Author.Tests.{ne_eqb}
use lib.Dec.{eqb}
use lib.ListN.{length, get_or, length-append}
use Rattle.model.specs.Lists.{only}
use Rattle.model.specs.Tree.{Tree, forest}
use Rattle.jsonrows.specs.Signature.{text_leaf, key_symbol}
use Rattle.jsonrows.specs.Keys.{find_text}
use Rattle.jsonrows.specs.Value.{Value, Elements, Members, null, boolean, number, string, array, object, no_element, element, no_member, member, number_text, node_tree, key_texts, member_tree, value_tree, elements_tree, members_tree}
use Rattle.jsonrows.specs.Meaning.{key_text, leaf_texts, elements_texts, members_texts, text_numbers, forest_numbers, TextsNumbered}
use Rattle.jsonrows.proofs.TextNumbers.{number_all, number_append, AllNumbered, all_numbered}

-- a tree has the numbers of these texts, after others
abbrev pub Has : Tree × List (List ℕ) → List (List ℕ) → List (List ℕ) → Type 0
Has p xs texts = (text_numbers p.0, p.1) ≡ number_all xs texts

-- the texts before keep their numbers, so there are as many or more
pub has_longer : (p : Tree × List (List ℕ)) (xs texts : List (List ℕ)) → Has p xs texts → length texts ≤ length p.1
has_longer p xs texts e =
    let h = all_numbered xs texts in
    let q : length p.1 ≡ length texts + length h.more = ap (λ r. length r.1) e ∙ ap length h.kept ∙ length-append texts h.more in
    omega arith

-- one after the other
then : (ks ms : List ℕ) (xs ys texts texts₁ texts₂ : List (List ℕ)) → (ks, texts₁) ≡ number_all xs texts → (ms, texts₂) ≡ number_all ys texts₁ → (ks ++ ms, texts₂) ≡ number_all (xs ++ ys) texts
then ks ms xs ys texts texts₁ texts₂ e f =
    ap (λ p. (ks ++ p.0, p.1)) f ∙ ap (λ p. (p.0 ++ (number_all ys p.1).0, (number_all ys p.1).1)) e ∙ sym (number_append xs ys texts)

module _ (keys : List (List ℕ)) where
  -- a value and what follows it, under a node that is no text's
  pair_has : (v rest : Tree) (xs ys texts texts₁ texts₂ : List (List ℕ)) → Has (v, texts₁) xs texts → Has (rest, texts₂) ys texts₁ → (forest_numbers (forest (v ∷ rest ∷ [])), texts₂) ≡ number_all (xs ++ ys) texts
  unfolding text_numbers
  pair_has v rest xs ys texts texts₁ texts₂ e f = ap (λ ns. (text_numbers v ++ ns, texts₂)) (append-nil (text_numbers rest)) ∙ then (text_numbers v) (text_numbers rest) xs ys texts texts₁ texts₂ e f

  listed_has : (k : ℕ) (v rest : Tree) → text_numbers (node_tree (key_symbol k) (v ∷ rest ∷ [])) ≡ forest_numbers (forest (v ∷ rest ∷ []))
  unfolding text_numbers
  listed_has k v rest = let e : eqb (key_symbol k) text_leaf ≡ false = ne_eqb (key_symbol k) text_leaf (λ q. omega arith) in ap (λ b. only b (0 ∷ []) ++ forest_numbers (forest (v ∷ rest ∷ []))) e

  member_has : (key : List ℕ) (o : Option ℕ) (v rest : Tree) (xs ys texts texts₁ texts₂ : List (List ℕ)) → Has (v, texts₁) xs (key_texts key texts o) → Has (rest, texts₂) ys texts₁ → Has (member_tree key texts o v rest, texts₂) (key_text key o ++ (xs ++ ys)) texts
  unfolding text_numbers
  member_has key (some k) v rest xs ys texts texts₁ texts₂ e f = ap (λ ns. (ns, texts₂)) (listed_has k v rest) ∙ pair_has v rest xs ys texts texts₁ texts₂ e f
  member_has key none v rest xs ys texts texts₁ texts₂ e f = ap (λ p. ((number_text key texts).0 ∷ p.0, p.1)) (pair_has v rest xs ys (number_text key texts).1 texts₁ texts₂ e f)

  mutual
    unfolding value_tree leaf_texts text_numbers

    -- the text leaves of a value's tree have the numbers of its texts
    pub value_has : (v : Value) (texts : List (List ℕ)) → Has (value_tree keys v texts) (leaf_texts keys v) texts
    value_has null texts = refl
    value_has (boolean b) texts = refl
    value_has (number n) texts = refl
    value_has (string bs) texts = refl
    value_has (array vs) texts = elements_have vs texts
    value_has (object ms) texts = members_have ms texts

    pub elements_have : (vs : Elements) (texts : List (List ℕ)) → Has (elements_tree keys vs texts) (elements_texts keys vs) texts
    elements_have no_element texts = refl
    elements_have (element v vs) texts =
        let (x, texts₁) = value_tree keys v texts in
        let (rest, texts₂) = elements_tree keys vs texts₁ in
        pair_has x rest (leaf_texts keys v) (elements_texts keys vs) texts texts₁ texts₂ (value_has v texts) (elements_have vs texts₁)

    pub members_have : (ms : Members) (texts : List (List ℕ)) → Has (members_tree keys ms texts) (members_texts keys ms) texts
    members_have no_member texts = refl
    members_have (member key v ms) texts =
        let (x, texts₁) = value_tree keys v (key_texts key texts (find_text key keys)) in
        let (rest, texts₂) = members_tree keys ms texts₁ in
        member_has key (find_text key keys) x rest (leaf_texts keys v) (members_texts keys ms) texts texts₁ texts₂ (value_has v (key_texts key texts (find_text key keys))) (members_have ms texts₁)

  -- what is known of the numbers of a value's texts, after others
  pub value_numbered : (v : Value) (texts : List (List ℕ)) → AllNumbered (leaf_texts keys v) texts (text_numbers (value_tree keys v texts).0) (value_tree keys v texts).1
  value_numbered v texts = subst (λ p. AllNumbered (leaf_texts keys v) texts p.0 p.1) (sym (value_has v texts)) (all_numbered (leaf_texts keys v) texts)

  -- TWO TEXTS OF A VALUE HAVE THE SAME NUMBER EXACTLY WHEN THEIR DECODED BYTES ARE EQUAL, and numbers are given in the order of the document.
  pub equal_numbers : (v : Value) → TextsNumbered (leaf_texts keys v) (text_numbers (value_tree keys v []).0)
  equal_numbers v =
      let h = value_numbered v [] in
      record {
        as_many = h.as_many;
        equal = λ i j li lj. (
          λ e. sym (h.text i li) ∙ ap (λ k. get_or (value_tree keys v []).1 k []) e ∙ h.text j lj,
          λ e. h.apart (λ i j l. let z : ⊥ = omega arith in absurd z) _ _ (h.inside i li) (h.inside j lj) (h.text i li ∙ e ∙ sym (h.text j lj)),
        );
        in_order = λ i l m lm. ⊎_elim (λ z. let w : ⊥ = omega arith in absurd w) (λ r. r) (h.order i l m lm);
      }
