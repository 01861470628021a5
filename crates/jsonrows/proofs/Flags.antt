-- Flags of the listed keys that stood before: with none, with one more that is listed, and with one that is not. Assumes nothing.
use mathlib.Core.Path.{◌≡◌, refl, sym, ap, ◌∙◌}
use mathlib.Core.Bool.{Bool, true, false, ◌||◌}
use mathlib.Core.List.{List, [], ◌∷◌, ◌++◌}
use mathlib.Core.Option.{none}
use Prim.Native.Nat.{ℕ, ◌<◌, ◌≤◌}
use native.Mathlib.Omega.{arith}
use borrow.Author.Tests.{eqb-true, eqb-false}
use lib.Dec.{eqb}
use lib.ListN.{length, get_or, set, replicate, length-set, length-replicate}
use lib.Seq.{get_or-set_same, get_or-set_other}
use Rattle.std.proofs.lemmas.List.{get_or-replicate}
use Rattle.model.specs.Lists.{any, eq_list}
use Rattle.jsonrows.specs.Keys.{find_text}
use Rattle.jsonrows.specs.Seen.{Flagged}
use Rattle.jsonrows.proofs.Finding.{eq_eq_list, eq_list_eq}
use Rattle.jsonrows.proofs.SeenKeys.{any_append, on_no_line}

-- texts that differ, as a test
differ : (a b : List ℕ) → (a ≡ b → ⊥) → eq_list a b ≡ false
differ a b n = go (eq_list a b) refl
  where
    go : (r : Bool) → eq_list a b ≡ r → r ≡ false
    go true e = absurd (n (eq_list_eq a b e))
    go false e = refl

pub flagged_none : (keys : List (List ℕ)) → length keys ≤ 56 → Flagged keys (replicate 64 false) []
flagged_none keys few = record { size = length-replicate {A = Bool} 64 false; few = few; each = λ k l. get_or-replicate 64 k false false (omega (arith, l, few)) }

module _ {keys : List (List ℕ)} {flags : List Bool} {seen : List (List ℕ)} where
  pub flagged_listed : ((i j : ℕ) → i < length keys → j < length keys → get_or keys i [] ≡ get_or keys j [] → i ≡ j) → Flagged keys flags seen → (k : ℕ) → k < length keys → Flagged keys (set flags k true) (seen ++ get_or keys k [] ∷ [])
  flagged_listed apart f k l =
      record {
        size = length-set flags k true ∙ f.size;
        few = f.few;
        each = λ j m. by j m (eqb j k) refl ∙ sym (any_append (eq_list (get_or keys j [])) seen (get_or keys k []));
      }
    where
      by : (j : ℕ) → j < length keys → (b : Bool) → eqb j k ≡ b → get_or (set flags k true) j false ≡ (eq_list (get_or keys j []) (get_or keys k []) || any (eq_list (get_or keys j [])) seen)
      by j m true e =
          let q : j ≡ k = eqb-true j k e in
          ap (λ i. get_or (set flags k true) i false) q ∙ get_or-set_same flags k true false (omega (arith, f.size, f.few, l))
          ∙ ap (◌|| any (eq_list (get_or keys j [])) seen) (sym (eq_eq_list (get_or keys j []) (get_or keys k []) (ap (λ i. get_or keys i []) q)))
      by j m false e =
          get_or-set_other flags k j true false (eqb-false j k e) ∙ f.each j m
          ∙ ap (◌|| any (eq_list (get_or keys j [])) seen) (sym (differ (get_or keys j []) (get_or keys k []) (λ q. eqb-false j k e (apart j k m l q))))

  pub flagged_other : (key : List ℕ) → find_text key keys ≡ none → Flagged keys flags seen → Flagged keys flags (seen ++ key ∷ [])
  flagged_other key e f =
      record {
        size = f.size;
        few = f.few;
        each = λ j m. f.each j m ∙ ap (◌|| any (eq_list (get_or keys j [])) seen) (sym (differ (get_or keys j []) key (λ q. on_no_line key keys e j m (sym q)))) ∙ sym (any_append (eq_list (get_or keys j [])) seen key);
      }
