-- Rows that were read are the table of the text's tree. Assumes nothing.
use mathlib.Core.Path.{◌≡◌, refl, sym, ap, subst, ◌∙◌}
use mathlib.Core.Bool.{Bool, true, false, cond}
use mathlib.Core.List.{List, []}
use Prim.Native.Nat.{ℕ, ◌/◌, ◌≤◌}
use native.Mathlib.Nat.{min-le_left}
use native.Mathlib.Omega.{arith}
use borrow.Author.Tests.{eqb-true}
use lib.Dec.{eqb}
use lib.ListN.{length}
use Rattle.model.specs.Limits.{max_rows, max_levels}
use Rattle.model.specs.Tree.{Tree, levels}
use Rattle.model.specs.Automaton.{Automaton}
use Rattle.model.specs.Table.{Row, tree_of, SoundTable}
use Rattle.model.specs.Fit.{FitTree}
use Rattle.model.specs.Build.{rows_of}
use Rattle.model.proofs.Build.{table}
use Rattle.model.proofs.BuiltTable.{sound_table}
use Rattle.automaton.specs.Stored.{decode}
use Rattle.document.specs.Rows.{row_cells}
use Rattle.document.proofs.Sound.{document_passes}
use Rattle.names.specs.Lines.{lines}
use Rattle.jsontext.specs.Spaces.{space_end}
use Rattle.jsontext.specs.Productions.{Spaces}
use Rattle.jsontext.proofs.SpaceProductions.{spaces_read}
use Rattle.jsonrows.specs.Signature.{Over}
use Rattle.jsonrows.specs.Keys.{keys_fit?}
use Rattle.jsonrows.specs.Value.{value_tree}
use Rattle.jsonrows.specs.Grammar.{Setting, Built, built, Outcome, good, refused, value}
use Rattle.jsonrows.specs.Read.{rows_read, refused_at, whole_text, read_text, setting_for, read_of}
use Rattle.jsonrows.specs.Meaning.{TreeOfText, TableOfText, RowsOfText}
use Rattle.jsonrows.proofs.ReadValues.{value_read}
use Rattle.jsonrows.proofs.AddedRows.{few_texts}
use Rattle.jsonrows.proofs.FittingValues.{value_fits}

-- a text that is read is a value, with white space up to the end
record ToTheEnd (t : List ℕ) (o : Outcome) (rows : List Row) : Type 0 where
  row : ℕ
  next : ℕ
  after : Built
  outcome : o ≡ good row next after
  end : space_end t next ≡ length t
  rows_are : after.rows ≡ rows

to_the_end : (t : List ℕ) (o : Outcome) (rows : List Row) → whole_text t o ≡ rows_read rows → ToTheEnd t o rows
to_the_end t (good j next b) rows = go (eqb (space_end t next) (length t)) refl
  where
    go : (c : Bool) → eqb (space_end t next) (length t) ≡ c → cond c (rows_read b.rows) (refused_at 71 (space_end t next)) ≡ rows_read rows → ToTheEnd t (good j next b) rows
    go true f e = record { row = j; next = next; after = b; outcome = refl; end = eqb-true _ _ f; rows_are = cc }
    go false f e = let z : ⊥ = cc in absurd z
to_the_end t (refused w p) rows = λ e. let z : ⊥ = cc in absurd z

module _ (l : ℕ) (S : Setting) (t : List ℕ) (rows : List Row) where
  pub text_read : read_text l S t ≡ rows_read rows → TableOfText S.keys l S.limit t rows
  unfolding read_text rows_of
  text_read e =
      let w = to_the_end t (value l S t (space_end t 0) (built [] [])) rows e in
      let h = value_read S t l (space_end t 0) (built [] []) w.outcome in
      let s : Spaces t w.next (length t) = subst (Spaces t w.next) w.end (spaces_read t w.next) in
      record {
        tree = (value_tree S.keys h.what []).0;
        text_is = record { value = h.what; text = record { first = space_end t 0; next = w.next; before = spaces_read t 0; value = h.spelled; after = s }; formed = h.formed; is = refl };
        rows_are = sym w.rows_are ∙ sym (ap (λ p. p.0) h.planted.added);
        low = h.planted.low;
        few = subst (λ rs. length rs ≤ S.limit) w.rows_are (h.planted.few (omega arith));
      }

-- a key list that is not refused
pub keys_pass : (list text : List ℕ) (space : ℕ) (rows : List Row) → read_of list text space ≡ rows_read rows → (keys_fit? list ≡ true) × (read_text max_levels (setting_for list space) text ≡ rows_read rows)
unfolding read_of
keys_pass list text space rows = go (keys_fit? list) refl
  where
    go : (b : Bool) → keys_fit? list ≡ b → cond b (read_text max_levels (setting_for list space) text) (refused_at 74 0) ≡ rows_read rows → (keys_fit? list ≡ true) × (read_text max_levels (setting_for list space) text ≡ rows_read rows)
    go true f e = (f, e)
    go false f e = let z : ⊥ = cc in absurd z

-- the rows of a text's tree are a sound table
pub sound_rows : {keys : List (List ℕ)} {t : List ℕ} {tree : Tree} → TreeOfText keys t tree → levels tree ≤ max_levels → length (rows_of tree) ≤ max_rows → (A : Automaton) → Over (length keys) A → SoundTable A (rows_of tree)
sound_rows {keys} {t} {tree} h low few A over =
    let same : length (rows_of (value_tree keys h.value []).0) ≡ length (rows_of tree) = ap (λ x. length (rows_of x)) h.is in
    let texts = few_texts keys h.value in
    sound_table A tree (subst (FitTree A) h.is (value_fits keys A over h.value [] h.formed (omega arith))) low few

-- THE ROWS THAT ARE READ ARE THE TABLE OF THE TEXT'S TREE, for every key list, every text and every space.
pub read_means : (list text : List ℕ) (space : ℕ) (rows : List Row) → read_of list text space ≡ rows_read rows → RowsOfText list text rows
read_means list text space rows e =
    let (fit, f) = keys_pass list text space rows e in
    let h = text_read max_levels (setting_for list space) text rows f in
    let few = min-le_left max_rows (space / row_cells) in
    let right : (A : Automaton) → Over (length (lines list)) A → SoundTable A rows = λ A over. subst (SoundTable A) (sym h.rows_are) (sound_rows h.text_is h.low (subst (λ rs. length rs ≤ max_rows) h.rows_are (omega (arith, h.few))) A over) in
    record {
      keys_fit = fit;
      tree = h.tree;
      text_is = h.text_is;
      first_finishing = h.rows_are;
      same_tree = ap tree_of h.rows_are ∙ (table h.tree).tree;
      low = h.low;
      sound = right;
      passes = λ set sound over. document_passes set rows sound (right (decode set) over);
    }
