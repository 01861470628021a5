-- Every node of a value's tree fits an automaton over the fixed signature. Assumes nothing.
use mathlib.Core.Path.{◌≡◌, refl, sym, ap, subst, ◌∙◌}
use mathlib.Core.Bool.{Bool, true, false, not, ◌&&◌}
use mathlib.Core.List.{List, [], ◌∷◌, ◌++◌}
use mathlib.Core.Option.{Option, none, some, some-injective, none-ne-some}
use Prim.Native.Nat.{ℕ, ◌^◌, ◌<◌, ◌≤◌}
use native.Mathlib.Omega.{arith}
use borrow.Author.Tests.{ltb-true, lt-ltb}
use lib.Dec.{T, ltb}
use lib.ListN.{length, get_or-eq_default}
use lib.Ieee.{binary64, to_bits}
use lib.Ieee.Bits.{to_bits-lt}
use lib.Ieee.Fits.{cond-fits, neg-fits, div-fits}
use Rattle.model.specs.Lists.{any, eq_list}
use Rattle.model.specs.Tree.{Tree, forest}
use Rattle.model.specs.Automaton.{Automaton}
use Rattle.model.specs.Table.{scalar?, rate?, one_zero}
use Rattle.model.specs.Fit.{FitTree, FitForest}
use Rattle.model.proofs.Rows.{trees_forest}
use Rattle.model.proofs.Scalars.{one_zero_stands}
use Rattle.model.proofs.Members.{or_left}
use Rattle.document.specs.Scalars.{kind_of, payload_of, row_rate}
use Rattle.document.specs.declared.scalar.Scalar.{Scalar}
use Rattle.document.specs.declared.scalar.Scalar.TheVariants.{Bare, Flag, Count, Name}
use Rattle.document.proofs.Rates.{payload_row_rate, kind_row_rate}
use Rattle.jsontext.specs.Number.{Number, quotient, rate, count?, decimal?, number_scalar}
use Rattle.jsontext.proofs.Places.{never, both}
use Rattle.jsonrows.specs.Signature.{end, stop, other, item, null_leaf, flag_leaf, number_leaf, text_leaf, key_symbol, json_arity, Over}
use Rattle.jsonrows.specs.Keys.{find_text}
use Rattle.jsonrows.specs.Value.{Value, Elements, Members, null, boolean, number, string, array, object, no_element, element, no_member, member, some?, scalar_or, number_text, leaf_tree, node_tree, text_tree, key_texts, member_tree, value_tree, elements_tree, members_tree, formed?, elements_formed?, members_formed?}
use Rattle.jsonrows.specs.Meaning.{leaf_texts, elements_texts, members_texts}
use Rattle.jsonrows.proofs.TextNumbers.{FoundText, find_text_lem, text_number}
use Rattle.jsonrows.proofs.TreeTexts.{has_longer, value_has, elements_have, members_have}

-- ---- scalars

abbrev Scalar? : Scalar → Type 0
Scalar? k = T (scalar? (kind_of k) (payload_of k))

flag_scalar : (b : Bool) → Scalar? (Flag b)
flag_scalar true = tt
flag_scalar false = tt

name_scalar : (k : ℕ) → k < 2 ^ 32 → Scalar? (Name k)
name_scalar k l = rw (lt-ltb k (2 ^ 32) l) tt

count_scalar : (n : ℕ) → n < 2 ^ 64 → Scalar? (Count n)
count_scalar n l = rw (lt-ltb n (2 ^ 64) l) tt

-- the bits of a rate are 64
rate_bits : (s : Bool) (digits places : ℕ) → to_bits binary64 (rate s digits places) < 2 ^ 64
unfolding rate
rate_bits s digits places =
    let q = quotient digits (10 ^ places) in
    let f = div-fits binary64 _ _ in
    to_bits-lt binary64 (rate s digits places) (cond-fits binary64 s _ q (neg-fits binary64 q f) f)

rate_scalar : (bits : ℕ) → bits < 2 ^ 64 → Scalar? (row_rate bits)
rate_scalar bits l =
    subst (λ k. T (scalar? k (payload_of (row_rate bits)))) (sym (kind_row_rate bits))
    (subst (λ p. T (scalar? 3 p)) (sym (payload_row_rate bits l)) (or_left (rate? (one_zero bits)) false (one_zero_stands bits l)))

-- what a count is below
count_below : (n : Number) → count? n ≡ true → n.digits.value < 2 ^ 64
unfolding count?
count_below n e = ltb-true _ _ (both (not n.negative && not n.fraction && not n.exponent) (ltb n.digits.value (2 ^ 64)) e).1

-- the scalar of a number is one
number_scalar_lem : (n : Number) (k : Scalar) → number_scalar n ≡ some k → Scalar? k
unfolding number_scalar
number_scalar_lem n k = count (count? n) refl
  where
    decimal : (b : Bool) → (elim b [ true ↦ some (row_rate (to_bits binary64 (rate n.negative n.digits.value n.places))) | false ↦ none ]) ≡ some k → Scalar? k
    decimal true e = subst (λ s. Scalar? s) (some-injective _ _ e) (rate_scalar _ (rate_bits n.negative n.digits.value n.places))
    decimal false e = absurd (none-ne-some k e)

    count : (b : Bool) → count? n ≡ b → (elim b [ true ↦ some (Count n.digits.value) | false ↦ elim (decimal? n) [ true ↦ some (row_rate (to_bits binary64 (rate n.negative n.digits.value n.places))) | false ↦ none ] ]) ≡ some k → Scalar? k
    count true c e = subst (λ s. Scalar? s) (some-injective _ _ e) (count_scalar n.digits.value (count_below n c))
    count false c e = decimal (decimal? n) e

-- ---- nodes

module _ (keys : List (List ℕ)) (A : Automaton) (over : Over (length keys) A) where
  leaf_fits : (s : ℕ) (k : Scalar) → s < key_symbol (length keys) → json_arity s ≡ 0 → Scalar? k → FitTree A (leaf_tree s k)
  unfolding FitTree
  leaf_fits s k l z h =
      let (known, arity) = over s l in
      (record { known = known; as_many = sym (arity ∙ z); scalar = h; bare = λ p. let w : ⊥ = omega arith in absurd w }, tt)

  node_fits : (s : ℕ) (ts : List Tree) → s < key_symbol (length keys) → json_arity s ≡ length ts → FitForest A (forest ts) → FitTree A (node_tree s ts)
  unfolding FitTree
  node_fits s ts l z h =
      let (known, arity) = over s l in
      (record { known = known; as_many = ap length (trees_forest ts) ∙ sym (arity ∙ z); scalar = tt; bare = λ p. (refl, refl) }, h)

  text_fits : (bs : List ℕ) (texts : List (List ℕ)) → length (number_text bs texts).1 ≤ 2 ^ 32 → FitTree A (text_tree (number_text bs texts).0)
  unfolding json_arity
  text_fits bs texts few = leaf_fits text_leaf (Name (number_text bs texts).0) (omega arith) refl (name_scalar (number_text bs texts).0 (omega (arith, (text_number bs texts).inside)))

  -- a member over its value and what follows
  member_fits : (key : List ℕ) (o : Option ℕ) → FoundText key keys o → (texts : List (List ℕ)) → length (key_texts key texts o) ≤ 2 ^ 32 → (x rest : Tree) → FitTree A x → FitTree A rest → FitTree A (member_tree key texts o x rest)
  unfolding json_arity FitTree
  member_fits key (some k) h texts few x rest f g = node_fits (key_symbol k) (x ∷ rest ∷ []) (omega (arith, h.0)) (get_or-eq_default (0 ∷ 0 ∷ 3 ∷ 2 ∷ 0 ∷ 0 ∷ 0 ∷ 0 ∷ []) 2 {n = key_symbol k} (omega arith)) (f, (g, tt))
  member_fits key none h texts few x rest f g = node_fits other (text_tree (number_text key texts).0 ∷ x ∷ rest ∷ []) (omega arith) refl (text_fits key texts few, (f, (g, tt)))

  -- a number that has a form
  number_fits : (n : Number) (o : Option Scalar) → number_scalar n ≡ o → some? o ≡ true → FitTree A (leaf_tree number_leaf (scalar_or o))
  unfolding json_arity
  number_fits n (some k) e f = leaf_fits number_leaf k (omega arith) refl (number_scalar_lem n k e)
  number_fits n none e f = never (sym f)

  mutual
    unfolding value_tree formed? json_arity FitTree

    -- EVERY NODE OF THE TREE OF A VALUE FITS, where its numbers have a form and its texts' numbers have 32 bits.
    pub value_fits : (v : Value) (texts : List (List ℕ)) → formed? v ≡ true → length (value_tree keys v texts).1 ≤ 2 ^ 32 → FitTree A (value_tree keys v texts).0
    value_fits null texts e few = leaf_fits null_leaf Bare (omega arith) refl tt
    value_fits (boolean b) texts e few = leaf_fits flag_leaf (Flag b) (omega arith) refl (flag_scalar b)
    value_fits (number n) texts e few = number_fits n (number_scalar n) refl e
    value_fits (string bs) texts e few = text_fits bs texts few
    value_fits (array vs) texts e few = elements_fit vs texts e few
    value_fits (object ms) texts e few = members_fit ms [] texts e few

    elements_fit : (vs : Elements) (texts : List (List ℕ)) → elements_formed? vs ≡ true → length (elements_tree keys vs texts).1 ≤ 2 ^ 32 → FitTree A (elements_tree keys vs texts).0
    elements_fit no_element texts e few = leaf_fits stop Bare (omega arith) refl tt
    elements_fit (element v vs) texts e few =
        let (a, b) = both (formed? v) (elements_formed? vs) e in
        let (x, texts₁) = value_tree keys v texts in
        let (rest, texts₂) = elements_tree keys vs texts₁ in
        let longer = has_longer (rest, texts₂) (elements_texts keys vs) texts₁ (elements_have keys vs texts₁) in
        node_fits item (x ∷ rest ∷ []) (omega arith) refl (value_fits v texts a (omega arith), (elements_fit vs texts₁ b few, tt))

    members_fit : (ms : Members) (seen texts : List (List ℕ)) → members_formed? seen ms ≡ true → length (members_tree keys ms texts).1 ≤ 2 ^ 32 → FitTree A (members_tree keys ms texts).0
    members_fit no_member seen texts e few = leaf_fits end Bare (omega arith) refl tt
    members_fit (member key v ms) seen texts e few =
        let (new, r) = both (not (any (eq_list key) seen)) (formed? v && members_formed? (seen ++ key ∷ []) ms) e in
        let (a, b) = both (formed? v) (members_formed? (seen ++ key ∷ []) ms) r in
        let texts₀ = key_texts key texts (find_text key keys) in
        let (x, texts₁) = value_tree keys v texts₀ in
        let (rest, texts₂) = members_tree keys ms texts₁ in
        let first = has_longer (x, texts₁) (leaf_texts keys v) texts₀ (value_has keys v texts₀) in
        let second = has_longer (rest, texts₂) (members_texts keys ms) texts₁ (members_have keys ms texts₁) in
        member_fits key (find_text key keys) (find_text_lem key keys) texts (omega arith) x rest (value_fits v texts₀ a (omega arith)) (members_fit ms (seen ++ key ∷ []) texts₁ b few)
