-- A member behind its key, or an element: what was said of its value, its rest and its row is said of it. Assumes nothing.
use mathlib.Core.Path.{◌≡◌, sym, ap, subst, ◌∙◌}
use mathlib.Core.Bool.{Bool}
use mathlib.Core.List.{List, [], ◌∷◌, ◌++◌, Memᴰ as In}
use Prim.Native.Nat.{ℕ, ◌+◌, ◌-◌, ◌<◌, ◌≤◌}
use lib.ListN.{get_or, take, drop}
use Rattle.base.specs.Text.{byte_at}
use Rattle.jsontext.specs.Spaces.{space_end}
use Rattle.jsonrows.specs.Grammar.{Setting, Built, Outcome, good, refused, close_at, joined, rest_at, after_value, value}
use Rattle.jsonrows.specs.State.{key_rows}
use Rattle.jsonrows.specs.Seen.{entry_key, entries, Seen}
use Rattle.jsonrows.specs.Items.{mark_of, leaf_of, rest_of, item_at}
use Rattle.model.specs.Limits.{max_rows}
use Rattle.model.specs.Lists.{any, eq_list}
use Rattle.jsonrows.proofs.SeenKeys.{any_same, entry_kept, entry_stays}
use Rattle.jsonrows.proofs.Walking.{rest_comma, rest_none}

-- the keys seen stay so while what is below them changes
pub seen_kept : {keys : List (List ℕ)} {t starts pending more after : List ℕ} {texts count hi : ℕ} {seen : List (List ℕ)} (lo : ℕ) → texts ≤ max_rows → texts ≤ count → ((k : ℕ) → k < texts → get_or more k 0 ≡ get_or starts k 0) → drop lo after ≡ drop lo pending
    → Seen keys t starts pending texts lo hi seen → Seen keys t more after count lo hi seen
seen_kept {keys} {t} {starts} {pending} {more} {after} {texts} {count} {hi} {seen} lo few grown same kept s =
    record {
      are = λ x. s.are x ∙ any_same (λ e. eq_list x (entry_key keys t starts e)) (λ e. eq_list x (entry_key keys t more e)) (entries pending lo hi) (λ e m. ap (λ k. eq_list x k) (sym (entry_kept keys t starts more texts few same e (s.each e m)))) ∙ ap (any (λ e. eq_list x (entry_key keys t more e))) (sym still);
      each = λ e m. entry_stays keys t starts more texts count grown same e (s.each e (subst (In e) still m));
    }
  where
    still : entries after lo hi ≡ entries pending lo hi
    still = ap (take (hi - lo)) kept

module _ (object : Bool) (l : ℕ) (S : Setting) (t : List ℕ) (seen : List (List ℕ)) (symbol key at : ℕ) (b : Built) where
  pub item_refused : {w p : ℕ} → value l S t at b ≡ refused w p → item_at object l S t seen symbol key at b ≡ refused w p
  item_refused e = ap (after_value S.limit t (mark_of object) (leaf_of object) (rest_of object l S t seen) symbol (key_rows symbol key)) e

  -- the value was read, and `e` is the first place behind it without a space
  module _ {v next : ℕ} {c : Built} (read : value l S t at b ≡ good v next c) (e : ℕ) (ends : e ≡ space_end t next) where
    behind_value : item_at object l S t seen symbol key at b ≡ joined S.limit symbol (key_rows symbol key ++ v ∷ []) (rest_at S.limit t (mark_of object) (leaf_of object) (rest_of object l S t seen) e c)
    behind_value =
        ap (after_value S.limit t (mark_of object) (leaf_of object) (rest_of object l S t seen) symbol (key_rows symbol key)) read
        ∙ ap (λ i. joined S.limit symbol (key_rows symbol key ++ v ∷ []) (rest_at S.limit t (mark_of object) (leaf_of object) (rest_of object l S t seen) i c)) (sym ends)

    pub item_last : (byte_at t e ≡ 44 → ⊥) → (mark leaf : ℕ) → mark ≡ mark_of object → leaf ≡ leaf_of object → item_at object l S t seen symbol key at b ≡ joined S.limit symbol (key_rows symbol key ++ v ∷ []) (close_at S.limit t mark leaf e c)
    item_last n mark leaf p q =
        behind_value ∙ ap (joined S.limit symbol (key_rows symbol key ++ v ∷ [])) (rest_none S.limit t (mark_of object) (leaf_of object) (rest_of object l S t seen) e c n)
        ∙ (λ i. joined S.limit symbol (key_rows symbol key ++ v ∷ []) (close_at S.limit t (sym p i) (sym q i) e c))

    -- behind a comma
    module _ (comma : byte_at t e ≡ 44) (i : ℕ) (from : i ≡ space_end t (e + 1)) where
      pub item_rest : {o : Outcome} → rest_of object l S t seen i c ≡ o → item_at object l S t seen symbol key at b ≡ joined S.limit symbol (key_rows symbol key ++ v ∷ []) o
      item_rest q =
          behind_value
          ∙ ap (joined S.limit symbol (key_rows symbol key ++ v ∷ []))
          (rest_comma S.limit t (mark_of object) (leaf_of object) (rest_of object l S t seen) e c comma ∙ ap (λ k. rest_of object l S t seen k c) (sym from) ∙ q)
