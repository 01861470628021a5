-- A text's number: what the probe for it finds, and what is held once it is added. Assumes nothing.
use mathlib.Core.Path.{◌≡◌, refl, sym, ap, subst, ◌∙◌}
use mathlib.Core.Bool.{Bool, true, false}
use mathlib.Core.Logic.{◌⊎◌, ⊎_elim}
use mathlib.Core.List.{List, [], ◌∷◌, ◌++◌}
use mathlib.Core.Option.{Option, none, some}
use Prim.Native.Nat.{ℕ, suc, ◌+◌, ◌<◌}
use native.Mathlib.Nat.{eq-or-lt_of_le}
use native.Mathlib.Numerals.{add-one}
use native.Mathlib.Omega.{arith}
use lib.ListN.{get_or, set, length-set}
use lib.Seq.{get_or-set_same, get_or-set_other}
use Rattle.base.specs.Text.{got}
use Rattle.model.specs.Limits.{max_rows}
use Rattle.model.specs.Lists.{eq_list, tab}
use Rattle.model.specs.Table.{Lower}
use Rattle.model.specs.Build.{find_row}
use Rattle.model.proofs.Tab.{length_tab, tab_same, tab_snoc}
use Rattle.document.specs.Rows.{row_in, rows_below}
use Rattle.document.specs.Fields.{as_row}
use Rattle.document.specs.Index.{probe, Indexed}
use Rattle.document.specs.Builder.{Ready}
use Rattle.document.specs.declared.index.Probed.{Probed}
use Rattle.document.specs.declared.index.Probed.TheVariants.{Found, Free, Crowded}
use Rattle.document.specs.declared.scalar.Scalar.TheVariants.{Name}
use Rattle.document.proofs.Probing.{scan, Opens, Answers, known, free, answers, indexed_same, indexed_more}
use Rattle.jsontext.specs.Strings.{string_at}
use Rattle.jsontext.specs.Decoded.{text_slot, same_text}
use Rattle.jsonrows.specs.Signature.{text_leaf}
use Rattle.jsonrows.specs.Keys.{find_text}
use Rattle.jsonrows.specs.Grammar.{leaf_row}
use Rattle.jsonrows.specs.State.{bytes_of, text_at, texts_in, Whole, Holds}
use Rattle.jsonrows.proofs.Finding.{eq_eq_list, eq_list_eq, eq_list_swap, find_scan}
use Rattle.model.proofs.Build.{more_lower}
use Rattle.jsonrows.proofs.Holding.{find_more, find_on, find_last, numbered_text, no_child}

-- What a probe finds: a text that has its number, or the slot for one that has none.
pub data ProbedText (t starts found bs : List ℕ) (texts : ℕ) : Probed → Type 0 where
  old_text : (k : ℕ) → k < texts → text_at t starts k ≡ bs → find_text bs (texts_in t starts texts) ≡ some k → ProbedText t starts found bs texts (Found (as_row k))
  new_text : (s : ℕ) → ((k : ℕ) → k < texts → text_at t starts k ≡ bs → ⊥) → find_text bs (texts_in t starts texts) ≡ none → Opens found (text_slot bs) s → ProbedText t starts found bs texts (Free s)

module _ (t cells slots starts found : List ℕ) (used texts limit : ℕ) (h : Holds t cells slots starts found used texts limit) (at : ℕ) (bs : List ℕ) (next : ℕ) (string : string_at t at ≡ got bs next) where
  abbrev same? : ℕ → Bool
  same? k = same_text (string_at t at) (string_at t (get_or starts k 0))

  same_is : (k : ℕ) → k < texts → same? k ≡ eq_list bs (text_at t starts k)
  same_is k l =
      let w = h.whole k l in
      (λ i. same_text (string i) (w.string i)) ∙ eq_list_swap w.bytes bs ∙ ap (λ g. eq_list bs (bytes_of g)) (sym w.string)

  is_that : (k : ℕ) → k < texts → same? k ≡ true → text_at t starts k ≡ bs
  is_that k l e = sym (eq_list_eq bs (text_at t starts k) (sym (same_is k l) ∙ e))

  differs : (k : ℕ) → k < texts → same? k ≡ false → text_at t starts k ≡ bs → ⊥
  differs k l e q =
      let f : true ≡ false = sym (eq_eq_list bs (text_at t starts k) (sym q)) ∙ sym (same_is k l) ∙ e in
      let z : ⊥ = cc in absurd z

  probed : Answers found texts same? (text_slot bs) (probe found same? (text_slot bs))
  probed =
      answers found texts (λ k. text_slot (text_at t starts k)) same? (text_slot bs) h.indexed (λ i l e. ap text_slot (is_that i l e))
      (omega (arith, h.few, h.ready.built.few))
      (λ i j l m a b. h.distinct i j l m (is_that i l a ∙ sym (is_that j m b)))

  pub probe_text : (slot : ℕ) → slot ≡ text_slot bs → ProbedText t starts found bs texts (probe found same? slot)
  probe_text slot e = subst (λ s. ProbedText t starts found bs texts (probe found same? s)) (sym e) (go probed)
    where
      found_by : {o : Option ℕ} → scan texts same? ≡ o → find_text bs (texts_in t starts texts) ≡ o
      found_by q = find_scan bs texts (text_at t starts) same? same_is ∙ q

      go : {q : Probed} → Answers found texts same? (text_slot bs) q → ProbedText t starts found bs texts q
      go (known i l a b) = old_text i l (is_that i l a) (found_by b)
      go (free s a b o) = new_text s (λ k l. differs k l (a k l)) (found_by b) o

  -- the text is added behind the others, at a slot that is free for it
  module _ (s : ℕ) (new : (k : ℕ) → k < texts → text_at t starts k ≡ bs → ⊥) (slot_free : Opens found (text_slot bs) s) (room : texts < max_rows) where
    abbrev more : List ℕ
    more = set (set starts texts at) (max_rows + texts) used

    here : get_or more texts 0 ≡ at
    here = get_or-set_other (set starts texts at) (max_rows + texts) texts used 0 (λ e. let z : ⊥ = omega (arith, e) in absurd z) ∙ get_or-set_same starts texts at 0 (omega (arith, h.size, room))

    pub there : (k : ℕ) → k < texts → get_or more k 0 ≡ get_or starts k 0
    there k l = get_or-set_other (set starts texts at) (max_rows + texts) k used 0 (λ e. let z : ⊥ = omega (arith, e, l) in absurd z) ∙ get_or-set_other starts texts k at 0 (λ e. let z : ⊥ = omega (arith, e, l) in absurd z)

    -- the rows of the leaves, and that of the new one
    row_here : get_or more (max_rows + texts) 0 ≡ used
    row_here = get_or-set_same (set starts texts at) (max_rows + texts) used 0 (let e = length-set starts texts at in omega (arith, e, h.size, room))

    row_there : (k : ℕ) → k < texts → get_or more (max_rows + k) 0 ≡ get_or starts (max_rows + k) 0
    row_there k l = get_or-set_other (set starts texts at) (max_rows + texts) (max_rows + k) used 0 (λ e. let z : ⊥ = omega (arith, e, l) in absurd z) ∙ get_or-set_other starts texts (max_rows + k) at 0 (λ e. let z : ⊥ = omega (arith, e, room) in absurd z)

    pub that_text : text_at t more texts ≡ bs
    that_text = ap (λ i. bytes_of (string_at t i)) here ∙ ap bytes_of string

    pub other_texts : (k : ℕ) → k < texts → text_at t more k ≡ text_at t starts k
    other_texts k l = ap (λ i. bytes_of (string_at t i)) (there k l)

    pub texts_more : texts_in t more (texts + 1) ≡ texts_in t starts texts ++ bs ∷ []
    texts_more =
        ap (λ n. tab n (text_at t more)) (add-one texts) ∙ tab_snoc texts (text_at t more)
        ∙ (λ i. tab_same texts (text_at t more) (text_at t starts) other_texts i ++ that_text i ∷ [])

    -- k is one of the texts before, or the new one
    one_of : (P : ℕ → Type 0) → P texts → ((k : ℕ) → k < texts → P k) → (k : ℕ) → k < texts + 1 → P k
    one_of P a b k l = ⊎_elim (λ e. subst P (sym e) a) (b k) (eq_or_below k l)
      where
        eq_or_below : (k : ℕ) → k < texts + 1 → (k ≡ texts) ⊎ (k < texts)
        eq_or_below k l = eq-or-lt_of_le (omega (arith, l))

    apart : (j k : ℕ) → j < texts + 1 → k < texts + 1 → text_at t more j ≡ text_at t more k → j ≡ k
    apart j k l m =
        one_of (λ x. text_at t more x ≡ text_at t more k → x ≡ k)
        (one_of (λ y. text_at t more texts ≡ text_at t more y → texts ≡ y) (λ e. refl) (λ y n e. absurd (new y n (sym (other_texts y n) ∙ sym e ∙ that_text))) k m)
        (λ x n. one_of (λ y. text_at t more x ≡ text_at t more y → x ≡ y) (λ e. absurd (new x n (sym (other_texts x n) ∙ e ∙ that_text)))
        (λ y o e. h.distinct x y n o (sym (other_texts x n) ∙ e ∙ other_texts y o)) k m)
        j l

    still_indexed : Indexed (set found s (suc texts)) (suc texts) (λ k. text_slot (text_at t more k))
    still_indexed =
        indexed_more found texts (λ k. text_slot (text_at t more k)) s
        (indexed_same (λ k. text_slot (text_at t starts k)) (λ k. text_slot (text_at t more k)) (λ k l. ap text_slot (sym (other_texts k l))) h.indexed)
        (subst (λ b. Opens found (text_slot b) s) (sym that_text) slot_free)

    pub holds_more : (cs ss : List ℕ) → rows_below cs (used + 1) ≡ rows_below cells used ++ leaf_row text_leaf (Name texts) ∷ [] → Ready cs ss (used + 1) limit
        → Holds t cs ss more (set found s (texts + 1)) (used + 1) (texts + 1) limit
    holds_more cs ss e d =
        record {
          ready = d;
          size = length-set (set starts texts at) (max_rows + texts) used ∙ length-set starts texts at ∙ h.size;
          whole = one_of (λ k. Whole t (get_or more k 0)) (record { bytes = bs; next = next; string = ap (string_at t) here ∙ string }) (λ k l. subst (Whole t) (sym (there k l)) (h.whole k l));
          distinct = apart;
          indexed = subst (λ n. Indexed (set found s n) n (λ k. text_slot (text_at t more k))) (sym (add-one texts)) still_indexed;
          few = omega (arith, h.few);
          fresh = λ k l.
              ap (find_row (leaf_row text_leaf (Name k))) e
              ∙ find_more (leaf_row text_leaf (Name k)) (leaf_row text_leaf (Name texts)) (rows_below cells used) ((numbered_text used (texts + 1) texts (omega arith)).differs k l) (h.fresh k (omega (arith, l)));
          lower = subst Lower (sym e) (more_lower (rows_below cells used) h.lower (leaf_row text_leaf (Name texts)) no_child);
          leaves =
              one_of (λ k. find_row (leaf_row text_leaf (Name k)) (rows_below cs (used + 1)) ≡ some (get_or more (max_rows + k) 0))
              (ap (find_row (leaf_row text_leaf (Name texts))) e ∙ find_last (leaf_row text_leaf (Name texts)) (rows_below cells used) (h.fresh texts (omega arith)) ∙ ap some (length_tab used (row_in cells) ∙ sym row_here))
              (λ k l. ap (find_row (leaf_row text_leaf (Name k))) e ∙ find_on (leaf_row text_leaf (Name k)) (leaf_row text_leaf (Name texts)) (rows_below cells used) _ (h.leaves k l) ∙ ap some (sym (row_there k l)));
        }

-- what a text that is new has
pub record Fresh (t starts found bs : List ℕ) (texts s : ℕ) : Type 0 where
  pub new : (k : ℕ) → k < texts → text_at t starts k ≡ bs → ⊥
  pub nowhere : find_text bs (texts_in t starts texts) ≡ none
  pub slot_free : Opens found (text_slot bs) s

module _ {t starts found bs : List ℕ} {texts : ℕ} where
  pub probed_known : {q : Probed} → ProbedText t starts found bs texts q → (k : ℕ) → Found (as_row k) ≡ q → (k < texts) × (text_at t starts k ≡ bs) × (find_text bs (texts_in t starts texts) ≡ some k)
  probed_known (old_text i l e f) k q = let r : as_row k ≡ as_row i = cc in let a : k ≡ i = ap (λ x. x.0) r in (omega (arith, l, a), ap (text_at t starts) a ∙ e, f ∙ ap some (sym a))
  probed_known (new_text s a b o) k q = let z : ⊥ = cc in absurd z

  pub probed_free : {q : Probed} → ProbedText t starts found bs texts q → (s : ℕ) → Free s ≡ q → Fresh t starts found bs texts s
  probed_free (old_text i l e f) s q = let z : ⊥ = cc in absurd z
  probed_free (new_text r a b o) s q = let e : r ≡ s = cc in record { new = a; nowhere = b; slot_free = subst (Opens found (text_slot bs)) e o }

  pub probed_some : {q : Probed} → ProbedText t starts found bs texts q → Crowded ≡ q → ⊥
  probed_some (old_text i l e f) q = cc
  probed_some (new_text r a b o) q = cc
