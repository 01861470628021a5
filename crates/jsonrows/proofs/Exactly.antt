-- A text is read exactly where it has a tree with few enough levels and rows; and a text has one tree. Assumes nothing.
use mathlib.Core.Path.{◌≡◌, sym, ap, subst, ◌∙◌}
use mathlib.Core.Logic.{◌↔◌}
use mathlib.Core.Bool.{true, cond}
use mathlib.Core.List.{List, []}
use Prim.Native.Nat.{ℕ, ◌+◌, ◌/◌, ◌≤◌, min}
use native.Mathlib.Omega.{arith}
use borrow.Author.Tests.{eq-eqb}
use lib.ListN.{length}
use Rattle.model.specs.Limits.{max_rows, max_levels}
use Rattle.model.specs.Tree.{Tree, levels}
use Rattle.model.specs.Table.{Row, tree_of}
use Rattle.model.specs.Build.{add_tree, rows_of}
use Rattle.model.proofs.Build.{table}
use Rattle.document.specs.Rows.{row_cells}
use Rattle.names.specs.Lines.{lines}
use Rattle.jsontext.specs.Spaces.{space_end}
use Rattle.jsontext.proofs.SpaceProductions.{read_spaces}
use Rattle.jsonrows.specs.Keys.{keys_fit?}
use Rattle.jsonrows.specs.Value.{value_tree}
use Rattle.jsonrows.specs.Grammar.{Setting, built, value}
use Rattle.jsonrows.specs.Read.{rows_read, refused_at, whole_text, read_text, setting_for, read_of}
use Rattle.jsonrows.specs.Meaning.{TreeOfText, TableOfText, leaf_texts, text_numbers, TextsNumbered}
use Rattle.jsonrows.proofs.ReadTexts.{text_read, keys_pass}
use Rattle.jsonrows.proofs.TreeTexts.{equal_numbers}
use Rattle.jsonrows.proofs.ValueStarts.{no_space_above, ends_before, ends_text, no_space_past, value_starts}
use Rattle.jsonrows.proofs.CompleteValues.{read_value}

module _ (l : ℕ) (S : Setting) (t : List ℕ) where
  -- a text that has a tree with few enough levels and rows is read into that tree's rows
  pub read_text_lem : {tree : Tree} → TreeOfText S.keys t tree → levels tree ≤ l → length (rows_of tree) ≤ S.limit → read_text l S t ≡ rows_read (rows_of tree)
  unfolding read_text rows_of
  read_text_lem {tree} h low few =
      let p = value_tree S.keys h.value [] in
      let j = h.text in
      let start : space_end t 0 ≡ j.first = sym (read_spaces t j.before (no_space_above _ (value_starts t j.value).0)) in
      let finish : space_end t j.next ≡ length t = sym (read_spaces t j.after (no_space_past t)) in
      ap (λ i. whole_text t (value l S t i (built [] []))) start
      ∙ ap (whole_text t) (read_value S t l j.value (ends_before t j.after (ends_text t)) h.formed (built [] []) (record { low = subst (λ x. levels x ≤ l) (sym h.is) low; few = subst (λ x. length (add_tree x []).0 ≤ S.limit) (sym h.is) few }))
      ∙ ap (λ c. cond c (rows_read (add_tree p.0 []).0) (refused_at 71 (space_end t j.next))) (eq-eqb _ _ finish)
      ∙ ap (λ x. rows_read (add_tree x []).0) h.is

  -- so it is read exactly where it has one
  pub text_exactly : (rows : List Row) → (read_text l S t ≡ rows_read rows) ↔ TableOfText S.keys l S.limit t rows
  text_exactly rows = (
    text_read l S t rows,
    λ h. read_text_lem h.text_is h.low (subst (λ rs. length rs ≤ S.limit) h.rows_are h.few) ∙ ap rows_read (sym h.rows_are),
  )

-- THE READER READS EXACTLY THE JSON TEXTS OF RFC 8259 whose numbers have a form, in whose objects no key stands twice, and whose tree has at most 256 levels and rows that have room; and what it reads are the rows of that tree.
pub reads_exactly : (list text : List ℕ) (space : ℕ) → keys_fit? list ≡ true → (rows : List Row) → (read_of list text space ≡ rows_read rows) ↔ TableOfText (lines list) max_levels (min max_rows (space / row_cells)) text rows
unfolding read_of
reads_exactly list text space fit rows = (
  λ e. (text_exactly max_levels (setting_for list space) text rows).0 (keys_pass list text space rows e).1,
  λ h. ap (λ c. cond c (read_text max_levels (setting_for list space) text) (refused_at 74 0)) fit ∙ (text_exactly max_levels (setting_for list space) text rows).1 h,
)

-- A TEXT HAS AT MOST ONE TREE, whatever keys are listed and however large it is.
pub tree_unique : (keys : List (List ℕ)) (t : List ℕ) (x y : Tree) → TreeOfText keys t x → TreeOfText keys t y → x ≡ y
tree_unique keys t x y h g =
    let S : Setting = record { keys = keys; limit = length (rows_of x) + length (rows_of y) } in
    let l : ℕ = levels x + levels y in
    let e : rows_read (rows_of x) ≡ rows_read (rows_of y) = sym (read_text_lem l S t h (omega arith) (omega arith)) ∙ read_text_lem l S t g (omega arith) (omega arith) in
    let q : rows_of x ≡ rows_of y = cc in
    sym (table x).tree ∙ ap tree_of q ∙ (table y).tree

-- Two texts in a document have the same number exactly when their decoded bytes are equal.
pub document_numbers : (keys : List (List ℕ)) (t : List ℕ) (tree : Tree) (h : TreeOfText keys t tree) → TextsNumbered (leaf_texts keys h.value) (text_numbers tree)
document_numbers keys t tree h = subst (λ x. TextsNumbered (leaf_texts keys h.value) (text_numbers x)) h.is (equal_numbers keys h.value)
