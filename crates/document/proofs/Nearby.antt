-- Rows by their words: a row has the cells of its words alone, so it is found by them as by its fields, and one near at hand is the one that a probe finds, which for a new row need compare none. Assumes nothing.
use mathlib.Core.Path.{◌≡◌, refl, sym, ap, ◌∙◌, subst}
use mathlib.Core.Bool.{Bool, true, false, cond, ◌&&◌}
use mathlib.Core.List.{List}
use mathlib.Core.Option.{none}
use Prim.Native.Nat.{ℕ, zero, suc, ◌+◌, ◌*◌, ◌<◌, ◌≤◌}
use native.Mathlib.Omega.{arith}
use borrow.Author.Tests.{lt-ltb}
use lib.Dec.{T, ltb}
use lib.ListN.{get_or}
use lib.Seq.{get_or-take}
use Rattle.model.specs.Limits.{max_rows}
use Rattle.model.specs.Lists.{eq_list, tab}
use Rattle.model.specs.Table.{Row, no_row, row_at}
use Rattle.model.specs.Build.{eq_row, find_row}
use Rattle.model.proofs.Members.{T_and, T_true, eq_list→eq, eq_list_refl}
use Rattle.model.proofs.Tab.{tab_at, length_tab}
use Rattle.model.proofs.Build.{eq_row→eq, eq_row_refl, find_ok, Found as FindsRow}
use Rattle.automaton.proofs.Parts.{tab_same, tab_of}
use Rattle.document.specs.declared.index.Probed.{Probed}
use Rattle.document.specs.declared.index.Probed.TheVariants.{Found, Free}
use Rattle.document.specs.declared.builder.Placed.TheVariants.{Known}
use Rattle.document.specs.Rows.{row_cells, cell_in, row_in, rows_below, encode_row}
use Rattle.document.specs.Words.{words_cells, Words, same_words}
use Rattle.document.specs.Fields.{as_row}
use Rattle.document.specs.Index.{slot_after, at_slot, probe_from, probe, start_slot}
use Rattle.document.specs.Builder.{find_or_add, Did, Ready}
use Rattle.document.proofs.Encoding.{decoded, encode_cell}
use Rattle.document.proofs.Probing.{Answers, known, free}
use Rattle.document.proofs.Building.{equal?, found}
use Rattle.document.proofs.Placement.{did_known}

-- a probe asks its test of the rows that the slots hold, and of no other
module _ (slots : List ℕ) (n : ℕ) (p q : ℕ → Bool) (s : ℕ) (held : (t : ℕ) → get_or slots t 0 ≤ n) (same : (i : ℕ) → i < n → p i ≡ q i) where
  at_same : (t v : ℕ) (empty next next' : Probed) → get_or slots t 0 ≡ v → next ≡ next' → at_slot p v empty next ≡ at_slot q v empty next'
  at_same t zero empty next next' e r = refl
  at_same t (suc i) empty next next' e r =
      let h = held t in
      ap (λ b. cond b (Found (as_row i)) next) (same i (omega arith)) ∙ ap (cond (q i) (Found (as_row i))) r

  from_same : (d left : ℕ) → probe_from slots p s d left ≡ probe_from slots q s d left
  unfolding probe_from
  from_same d zero = refl
  from_same d (suc left) =
      at_same (slot_after s d) (get_or slots (slot_after s d) 0) (Free (slot_after s d)) (probe_from slots p s (suc d) left) (probe_from slots q s (suc d) left) refl (from_same (suc d) left)

  pub probe_same : probe slots p s ≡ probe slots q s
  probe_same = from_same 0 2048

module _ (cells slots : List ℕ) (n limit : ℕ) (ready : Ready cells slots n limit) (a b c : ℕ) (x : Row) (w : Words x a b c) where
  -- a row with the cells of the words
  row_is : (i : ℕ) → same_words cells a b c i ≡ true → row_in cells i ≡ x
  unfolding same_words
  row_is i e =
      let g = T_and (ltb i max_rows) (eq_list (words_cells a b c) (tab row_cells (cell_in cells i))) ((T_true (same_words cells a b c i)).1 e) in
      let l = eq_list→eq (words_cells a b c) (tab row_cells (cell_in cells i)) g.1 in
      decoded x cells i w.kept (λ k m. sym (tab_at 0 row_cells (cell_in cells i) k m) ∙ ap (λ t. get_or t k 0) (sym l ∙ sym w.cells))

  module _ (i : ℕ) (l : i < n) where
    cell_is : (k : ℕ) → k < row_cells → cell_in cells i k ≡ get_or (encode_row (row_in cells i)) k 0
    unfolding cell_in
    cell_is k m =
        sym (get_or-take (n * row_cells) cells (i * row_cells + k) 0 (omega arith))
        ∙ ap (λ t. get_or t (i * row_cells + k) 0) ready.encoded
        ∙ encode_cell (rows_below cells n) i k (rw length_tab l) m
        ∙ ap (λ r. get_or (encode_row r) k 0) (tab_at no_row n (row_in cells) i l)

    cells_are : tab row_cells (cell_in cells i) ≡ encode_row (row_in cells i)
    cells_are = tab_same row_cells (cell_in cells i) (λ k. get_or (encode_row (row_in cells i)) k 0) cell_is ∙ tab_of 0 (encode_row (row_in cells i))

    words_are : x ≡ row_in cells i → same_words cells a b c i ≡ true
    unfolding same_words
    words_are e =
        let f : ltb i max_rows ≡ true = lt-ltb i max_rows (omega (arith, ready.built.few)) in
        let g : words_cells a b c ≡ tab row_cells (cell_in cells i) = sym w.cells ∙ ap encode_row e ∙ sym cells_are in
        ap (λ t. t && eq_list (words_cells a b c) (tab row_cells (cell_in cells i))) f
        ∙ (T_true (eq_list (words_cells a b c) (tab row_cells (cell_in cells i)))).0 (subst (λ t. T (eq_list (words_cells a b c) t)) g (eq_list_refl (words_cells a b c)))

    same_row : same_words cells a b c i ≡ equal? cells x i
    same_row = go (same_words cells a b c i) (equal? cells x i) refl refl
      where
        go : (p q : Bool) → same_words cells a b c i ≡ p → equal? cells x i ≡ q → p ≡ q
        go true true e f = refl
        go true false e f = absurd (subst T f (subst (λ r. T (eq_row x r)) (sym (row_is i e)) (eq_row_refl x)))
        go false true e f = absurd (subst T (sym (words_are (eq_row→eq x (row_in cells i) ((T_true (equal? cells x i)).1 f))) ∙ e) tt)
        go false false e f = refl

  -- a probe by the words is one by the row
  pub words_probed : (s : ℕ) (q : Probed) → q ≡ probe slots (same_words cells a b c) s → q ≡ probe slots (equal? cells x) s
  words_probed s q e = e ∙ probe_same slots n (same_words cells a b c) (equal? cells x) s ready.built.indexed.held same_row

  -- it finds the row that has the words, of which there is one
  by_answer : (i : ℕ) → i < n → row_in cells i ≡ x → {q : Probed} → Answers slots n (equal? cells x) (start_slot x) q → q ≡ Found (as_row i)
  by_answer i l e (known j m t s) = ap (λ k. Found (as_row k)) (ready.built.distinct j i m l (sym (eq_row→eq x (row_in cells j) ((T_true (equal? cells x j)).1 t)) ∙ sym e))
  by_answer i l e (free t f s o) = absurd (subst T (f i l) (subst (λ r. T (eq_row x r)) (sym e) (eq_row_refl x)))

  pub did_near : (i : ℕ) → i < n → same_words cells a b c i ≡ true → Did (find_or_add cells slots n limit x) (Known (as_row i)) cells slots
  unfolding start_slot
  did_near i l e =
      did_known cells slots n limit x (encode_row x) (start_slot x) (probe slots (equal? cells x) (start_slot x)) refl refl refl (as_row i)
      (by_answer i l (row_is i e) (found cells slots n ready.built x))

-- a row that no row below n equals
module _ (cells slots : List ℕ) (n limit : ℕ) (ready : Ready cells slots n limit) (x : Row) (new : find_row x (rows_below cells n) ≡ none) where
  differs : (i : ℕ) → i < n → equal? cells x i ≡ false
  differs i l = go (equal? cells x i) refl
    where
      go : (b : Bool) → equal? cells x i ≡ b → b ≡ false
      go true e =
          let same : row_at (rows_below cells n) i ≡ x = tab_at no_row n (row_in cells) i l ∙ sym (eq_row→eq x (row_in cells i) ((T_true (equal? cells x i)).1 e)) in
          absurd (subst (FindsRow x (rows_below cells n)) new (find_ok x (rows_below cells n)) i (rw length_tab l) same)
      go false e = refl

  -- a probe that no row passes is one by that row
  pub new_probed : (s : ℕ) (q : Probed) → q ≡ probe slots (λ _. false) s → q ≡ probe slots (equal? cells x) s
  new_probed s q e = e ∙ probe_same slots n (λ _. false) (equal? cells x) s ready.built.indexed.held (λ i l. sym (differs i l))
