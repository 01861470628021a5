-- The leaf of a text: each way through its definition, by what the probe found and the builder answered. Assumes nothing.
use mathlib.Core.Path.{◌≡◌, refl, sym, ap, subst, ◌∙◌}
use mathlib.Core.Bool.{true, false, cond}
use mathlib.Core.List.{List, [], ◌∷◌, ◌++◌}
use mathlib.Core.Option.{Option, none, some}
use Rattle.std.specs.Prelude.{Ok}
use Prim.Native.Nat.{ℕ, ◌+◌, ◌-◌, ◌<◌}
use native.Mathlib.Omega.{arith}
use borrow.Author.Tests.{lt-ltb, le-ltb}
use lib.Dec.{ltb}
use lib.ListN.{length, set, get_or}
use Rattle.base.specs.Text.{got}
use Rattle.model.specs.Limits.{max_rows}
use Rattle.model.specs.Table.{Row}
use Rattle.model.specs.Build.{find_row}
use Rattle.model.proofs.Tab.{length_tab}
use Rattle.document.specs.Rows.{row_in, rows_below, Kept}
use Rattle.document.specs.Fields.{as_row}
use Rattle.document.specs.Builder.{find_or_add, Did}
use Rattle.document.specs.declared.rows.Row as number
use Rattle.document.specs.declared.scalar.Scalar.TheVariants.{Name}
use Rattle.document.specs.declared.builder.Placed.{Placed}
use Rattle.document.specs.declared.builder.Placed.TheVariants.{Known, Added, Full}
use Rattle.document.proofs.Ready.{Put, was, is, no_room, puts}
use Rattle.jsontext.specs.Strings.{string_at}
use Rattle.jsontext.specs.Decoded.{text_slot}
use Rattle.jsonrows.specs.Signature.{text_leaf}
use Rattle.jsonrows.specs.Keys.{find_text}
use Rattle.jsonrows.specs.Value.{numbered}
use Rattle.jsonrows.specs.Grammar.{Built, built, good, refused, leaf_row, place_row, finish, finish_text, after_text}
use Rattle.jsonrows.specs.State.{text_at, texts_in, built_in, Holds, Says, says_read}
use Rattle.jsonrows.specs.Texts.{ProbedAt}
use Rattle.document.specs.declared.index.Probed.TheVariants.{Found}
use Rattle.jsonrows.proofs.Holding.{says_by, found_inside, after_same}
use Rattle.jsonrows.proofs.Texting.{Fresh, there, holds_more, texts_more, probe_text, probed_known}

module _ (t cells starts : List ℕ) (used texts limit at : ℕ) (bs : List ℕ) (next : ℕ) (string : string_at t at ≡ got bs next) where
  abbrev b : Built
  b = built_in t cells starts used texts

  texts_are : length (texts_in t starts texts) ≡ texts
  texts_are = length_tab texts (text_at t starts)

  rows_are : length (rows_below cells used) ≡ used
  rows_are = length_tab used (row_in cells)

  -- the definition, by what is found among the texts
  text_by : {o : Option ℕ} → find_text bs (texts_in t starts texts) ≡ o
      → after_text limit b (string_at t at) ≡ finish limit (leaf_row text_leaf (Name (numbered bs (texts_in t starts texts) o).0)) next (built (rows_below cells used) (numbered bs (texts_in t starts texts) o).1)
  unfolding finish_text
  text_by e = ap (after_text limit b) string ∙ ap (λ o. finish limit (leaf_row text_leaf (Name (numbered bs (texts_in t starts texts) o).0)) next (built (rows_below cells used) (numbered bs (texts_in t starts texts) o).1)) e

  pub text_known : (k : ℕ) → find_text bs (texts_in t starts texts) ≡ some k → after_text limit b (string_at t at) ≡ finish limit (leaf_row text_leaf (Name k)) next b
  text_known k e = text_by e

  pub text_new : find_text bs (texts_in t starts texts) ≡ none → after_text limit b (string_at t at) ≡ finish limit (leaf_row text_leaf (Name texts)) next (built (rows_below cells used) (texts_in t starts texts ++ bs ∷ []))
  text_new e = text_by e ∙ ap (λ n. finish limit (leaf_row text_leaf (Name n)) next (built (rows_below cells used) (texts_in t starts texts ++ bs ∷ []))) texts_are

  -- a text that has its number has its leaf's row
  pub known_says : (slots found : List ℕ) (h : Holds t cells slots starts found used texts limit) → 0 < next → (k : ℕ) → k < texts → find_text bs (texts_in t starts texts) ≡ some k → (row : number.Row) → row.0 ≡ get_or starts (max_rows + k) 0 → Says t cells slots starts found starts texts limit (Ok (record { row = row; next = next; counts = record { used = used; texts = texts } })) (after_text limit b (string_at t at))
  unfolding finish
  known_says slots found h behind k l e row r =
      let there = h.leaves k l in
      let inside = found_inside (leaf_row text_leaf (Name k)) (rows_below cells used) (get_or starts (max_rows + k) 0) there in
      says_by (text_known k e ∙ ap (place_row limit (leaf_row text_leaf (Name k)) next b) (there ∙ ap some (sym r)))
      (says_read (after_same t cells slots starts found used texts limit h cells slots refl refl row next behind (omega (arith, inside, r, rows_are))))

  -- a text that is new, by what the builder answered for its leaf
  module _ (slots found : List ℕ) (h : Holds t cells slots starts found used texts limit) (s : ℕ) (f : Fresh t starts found bs texts s) (behind : 0 < next) where
    leaf_by : {o : Option ℕ} → find_row (leaf_row text_leaf (Name texts)) (rows_below cells used) ≡ o
        → after_text limit b (string_at t at) ≡ place_row limit (leaf_row text_leaf (Name texts)) next (built (rows_below cells used) (texts_in t starts texts ++ bs ∷ [])) o
    unfolding finish
    leaf_by e = text_new f.nowhere ∙ ap (place_row limit (leaf_row text_leaf (Name texts)) next (built (rows_below cells used) (texts_in t starts texts ++ bs ∷ []))) e

    absent : find_row (leaf_row text_leaf (Name texts)) (rows_below cells used) ≡ none
    absent = h.fresh texts (omega arith)

    -- the builder was asked for the row of fields that are this leaf
    module _ {row : Row} (leaf : row ≡ leaf_row text_leaf (Name texts)) (kept : Kept row) (cs ss : List ℕ) (a : Placed) (did : Did (find_or_add cells slots used limit row) a cs ss) where
      put : Put cells slots cs ss used limit (leaf_row text_leaf (Name texts)) a
      put = subst (λ r. Put cells slots cs ss used limit r a) leaf (puts cells slots used limit h.ready row kept cs ss a did)

      pub leaf_known : (i : number.Row) → a ≡ Known i → ⊥
      leaf_known i e = go put e
        where
          go : {x : Placed} → Put cells slots cs ss used limit (leaf_row text_leaf (Name texts)) x → x ≡ Known i → ⊥
          go (was j q c d) p = let r : none ≡ some j.0 = sym absent ∙ q in cc
          go (is j n q l m d) p = cc
          go (no_room q l) p = cc

      pub leaf_room : (i : number.Row) → a ≡ Added i → used < limit
      leaf_room i e = go put e
        where
          go : {x : Placed} → Put cells slots cs ss used limit (leaf_row text_leaf (Name texts)) x → x ≡ Added i → used < limit
          go (was j q c d) p = let z : ⊥ = cc in absurd z
          go (is j n q l m d) p = l
          go (no_room q l) p = let z : ⊥ = cc in absurd z

      pub leaf_added : (i : number.Row) → a ≡ Added i → (place behind row_is : ℕ) → place ≡ texts → behind ≡ max_rows + texts → row_is ≡ used → Says t cs ss (set (set starts place at) behind row_is) (set found s (texts + 1)) starts texts limit (Ok (record { row = i; next = next; counts = record { used = used + 1; texts = texts + 1 } })) (after_text limit b (string_at t at))
      leaf_added i e place after row_is p q r =
          subst (λ st. Says t cs ss st (set found s (texts + 1)) starts texts limit (Ok (record { row = i; next = next; counts = record { used = used + 1; texts = texts + 1 } })) (after_text limit b (string_at t at))) (λ j. set (set starts (sym p j) at) (sym q j) (sym r j)) (go put e)
        where
          go : {x : Placed} → Put cells slots cs ss used limit (leaf_row text_leaf (Name texts)) x → x ≡ Added i → Says t cs ss (set (set starts texts at) (max_rows + texts) used) (set found s (texts + 1)) starts texts limit (Ok (record { row = i; next = next; counts = record { used = used + 1; texts = texts + 1 } })) (after_text limit b (string_at t at))
          go (was j q c d) p = let z : ⊥ = cc in absurd z
          go (is j n q l m d) p =
              let same : j ≡ i = cc in
              let room : ltb (length (rows_below cells used)) limit ≡ true = lt-ltb (length (rows_below cells used)) limit (omega (arith, rows_are, l)) in
              let few : texts < max_rows = omega (arith, h.few, h.ready.few, l) in
              says_by
              (leaf_by absent
              ∙ (λ k. cond (room k) (good (length (rows_below cells used)) next (built (rows_below cells used ++ leaf_row text_leaf (Name texts) ∷ []) (texts_in t starts texts ++ bs ∷ []))) (refused 67 (next - 1))))
              (says_read
              (record {
                used = used + 1;
                texts = texts + 1;
                answer = ap (λ (x : number.Row). Ok (record { row = x; next = next; counts = record { used = used + 1; texts = texts + 1 } })) (sym same ∙ ap as_row (n ∙ sym rows_are));
                is = λ k. built (sym m k) (sym (texts_more t cells slots starts found used texts limit h at bs next string s f.new f.slot_free few) k);
                holds = holds_more t cells slots starts found used texts limit h at bs next string s f.new f.slot_free few cs ss m d;
                inside = omega (arith, rows_are);
                behind = behind;
                more = omega arith;
                same = there t cells slots starts found used texts limit h at bs next string s f.new f.slot_free few;
              }))
          go (no_room q l) p = let z : ⊥ = cc in absurd z

      pub leaf_full : a ≡ Full → after_text limit b (string_at t at) ≡ refused 67 (next - 1)
      leaf_full e = go put e
        where
          go : {x : Placed} → Put cells slots cs ss used limit (leaf_row text_leaf (Name texts)) x → x ≡ Full → after_text limit b (string_at t at) ≡ refused 67 (next - 1)
          go (was j q c d) p = let z : ⊥ = cc in absurd z
          go (is j n q l m d) p = let z : ⊥ = cc in absurd z
          go (no_room q l) p =
              let room : ltb (length (rows_below cells used)) limit ≡ false = le-ltb (length (rows_below cells used)) limit (omega (arith, rows_are, l)) in
              leaf_by absent
              ∙ (λ k. cond (room k) (good (length (rows_below cells used)) next (built (rows_below cells used ++ leaf_row text_leaf (Name texts) ∷ []) (texts_in t starts texts ++ bs ∷ []))) (refused 67 (next - 1)))

-- the row of a text's leaf is one of the rows
row_inside : {t cells slots starts found : List ℕ} {used texts limit : ℕ} → Holds t cells slots starts found used texts limit → {k : ℕ} → k < texts → (k < 1024) × (get_or starts (max_rows + k) 0 < 65536)
row_inside {cells = cells} {starts = starts} {used = used} h {k} l =
    let inside = found_inside (leaf_row text_leaf (Name k)) (rows_below cells used) (get_or starts (max_rows + k) 0) (h.leaves k l) in
    (omega (arith, l, h.few, h.ready.built.few), omega (arith, inside, length_tab used (row_in cells), h.ready.built.few))

-- a text that the probe found
module _ {t cells slots starts found : List ℕ} {used texts limit at next : ℕ} {n : number.Row} (h : Holds t cells slots starts found used texts limit) (w : ProbedAt t starts found at next (Found n)) where
  numbered_so : (n.0 < texts) × (text_at t starts n.0 ≡ w.bytes) × (find_text w.bytes (texts_in t starts texts) ≡ some n.0)
  numbered_so = probed_known (probe_text t cells slots starts found used texts limit h at w.bytes next w.string (text_slot w.bytes) refl) n.0 w.answer

  pub known_inside : (length starts ≡ 2048) × ((n.0 < 1024) × (get_or starts (max_rows + n.0) 0 < 65536))
  known_inside = (h.size, row_inside h numbered_so.0)

  pub known_read : 0 < next → (row : number.Row) → row.0 ≡ get_or starts (max_rows + n.0) 0 → Says t cells slots starts found starts texts limit (Ok (record { row = row; next = next; counts = record { used = used; texts = texts } })) (after_text limit (built_in t cells starts used texts) (string_at t at))
  known_read behind row e = known_says t cells starts used texts limit at w.bytes next w.string slots found h behind n.0 numbered_so.0 numbered_so.2 row e
