-- The words of leaves, members and elements. Assumes nothing.
use mathlib.Core.Path.{◌≡◌, sym, ap, subst, ◌∙◌}
use mathlib.Core.Bool.{Bool, false, cond}
use mathlib.Core.List.{List, [], ◌∷◌, ◌++◌, append_assoc}
use Prim.Native.Nat.{ℕ, ◌/◌, ◌%◌, ◌^◌, ◌<◌, ◌≤◌}
use native.Mathlib.Omega.{arith}
use borrow.Author.Tests.{eq-eqb, ne_eqb}
use lib.Dec.{eqb}
use lib.ListN.{length, replicate}
use Rattle.model.specs.Limits.{unused}
use Rattle.document.specs.Rows.{used, places_of, split_cells, encode_row}
use Rattle.document.specs.Words.{Words}
use Rattle.document.specs.Scalars.{kind_of, payload_of}
use Rattle.document.specs.declared.scalar.Scalar.{Scalar}
use Rattle.document.proofs.WordCells.{leaf_words}
use Rattle.jsonrows.specs.Signature.{other}
use Rattle.jsonrows.specs.Grammar.{leaf_row, node_row}
use Rattle.jsonrows.specs.State.{key_rows}

used_first : (x : ℕ) (xs : List ℕ) → x < unused → used (x ∷ xs) ≡ x ∷ used xs
used_first x xs l = let e : eqb x unused ≡ false = ne_eqb x unused (λ q. omega (arith, l, q)) in rw e

-- the words of a leaf, by what the scalar's kind and payload come to
pub leaf_row_lem : (s : ℕ) (k : Scalar) (x kind low high a b : ℕ) → x ≡ payload_of k → kind ≡ kind_of k → x < 2 ^ 64 → low ≡ x % 65536 → high ≡ x / 65536 % 65536 → split_cells 4 a ≡ s ∷ unused ∷ unused ∷ unused ∷ [] → split_cells 4 b ≡ unused ∷ kind ∷ low ∷ high ∷ [] → Words (leaf_row s k) a b (x / 4294967296)
leaf_row_lem s k x kind low high a b e f h p q u v =
    leaf_words s (kind_of k) (payload_of k) a b (x / 4294967296) (omega (arith, e, h)) u
    (v ∙ (λ i. unused ∷ f i ∷ p i ∷ q i ∷ []) ∙ ap (λ (y : ℕ). unused ∷ kind_of k ∷ y % 65536 ∷ y / 65536 % 65536 ∷ []) e)
    (ap (λ (y : ℕ). y / 4294967296) e)

module _ (s k v r : ℕ) (l : (k < unused) × (v < unused) × (r < unused)) where
  -- the children by whether the key is listed
  abbrev by : Bool → List ℕ
  by b = (cond b (k ∷ []) [] ++ v ∷ []) ++ r ∷ []

  -- the words of a row with children, which stand in the first
  module _ (a b : ℕ) (rest : split_cells 4 b ≡ unused ∷ 0 ∷ 0 ∷ 0 ∷ []) where
    node_words : (js : List ℕ) → length js ≤ 4 → used js ≡ js → split_cells 4 a ++ unused ∷ [] ≡ s ∷ places_of js → Words (node_row s js) a b 0
    node_words js few all e =
        record {
          kept = record { few = few; used_all = all; payload = omega arith };
          cells = ap (λ cs. cs ++ 0 ∷ 0 ∷ 0 ∷ 0 ∷ 0 ∷ []) (sym e) ∙ append_assoc (split_cells 4 a) (unused ∷ []) (0 ∷ 0 ∷ 0 ∷ 0 ∷ 0 ∷ []) ∙ ap (λ cs. split_cells 4 a ++ (cs ++ 0 ∷ 0 ∷ [])) (sym rest);
        }

    pub three_places : s ≡ other → split_cells 4 a ≡ s ∷ k ∷ v ∷ r ∷ [] → Words (node_row s ((key_rows s k ++ v ∷ []) ++ r ∷ [])) a b 0
    three_places e f =
        subst (λ x. Words (node_row s (by x)) a b 0) (sym (eq-eqb s other e))
        (node_words (k ∷ v ∷ r ∷ []) (omega arith) (used_first k (v ∷ r ∷ []) l.0 ∙ ap (k ∷◌) (used_first v (r ∷ []) l.1 ∙ ap (v ∷◌) (used_first r [] l.2))) (ap (λ cs. cs ++ unused ∷ []) f))

    pub two_places : (s ≡ other → ⊥) → split_cells 4 a ≡ s ∷ v ∷ r ∷ unused ∷ [] → Words (node_row s ((key_rows s k ++ v ∷ []) ++ r ∷ [])) a b 0
    two_places e f =
        subst (λ x. Words (node_row s (by x)) a b 0) (sym (ne_eqb s other e))
        (node_words (v ∷ r ∷ []) (omega arith) (used_first v (r ∷ []) l.1 ∙ ap (v ∷◌) (used_first r [] l.2)) (ap (λ cs. cs ++ unused ∷ []) f))

-- the cells of a row with children
module _ (s k v r : ℕ) where
  pub three_cells : s ≡ other → encode_row (node_row s ((key_rows s k ++ v ∷ []) ++ r ∷ [])) ≡ s ∷ k ∷ v ∷ r ∷ unused ∷ replicate 5 0
  three_cells e = ap (λ x. encode_row (node_row s ((cond x (k ∷ []) [] ++ v ∷ []) ++ r ∷ []))) (eq-eqb s other e)

  pub two_cells : (s ≡ other → ⊥) → encode_row (node_row s ((key_rows s k ++ v ∷ []) ++ r ∷ [])) ≡ s ∷ v ∷ r ∷ unused ∷ unused ∷ replicate 5 0
  two_cells e = ap (λ x. encode_row (node_row s ((cond x (k ∷ []) [] ++ v ∷ []) ++ r ∷ []))) (ne_eqb s other e)
