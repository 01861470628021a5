-- Rows that were read are a sound table of the tree that the text spells. Assumes nothing.
use mathlib.Core.Path.{◌≡◌, refl, sym, ap, subst, ◌∙◌}
use mathlib.Core.Bool.{Bool, true, false, cond}
use mathlib.Core.List.{List, []}
use mathlib.Core.Option.{some}
use Prim.Native.Nat.{ℕ, zero, suc, ◌/◌, ◌<◌, ◌≤◌}
use native.Mathlib.Nat.{min-le_left}
use native.Mathlib.Omega.{arith}
use borrow.Author.Tests.{eqb-true}
use lib.Dec.{eqb}
use lib.ListN.{length}
use Rattle.model.specs.Limits.{max_rows, max_levels}
use Rattle.model.specs.Table.{Row, tree_of, SoundTable}
use Rattle.model.specs.Build.{rows_of}
use Rattle.model.proofs.Build.{table}
use Rattle.model.proofs.BuiltTable.{sound_table}
use Rattle.automaton.specs.Stored.{decode}
use Rattle.automaton.specs.Check.{check_of}
use Rattle.document.specs.Rows.{row_cells}
use Rattle.document.proofs.Sound.{document_passes}
use Rattle.names.specs.Names.{find_name}
use Rattle.names.specs.Check.{names_check_of}
use Rattle.names.proofs.Shown.{found_shown}
use Rattle.term.specs.Grammar.{Outcome, good, refused, read_term}
use Rattle.term.specs.Read.{Reading, rows_read, refused_at, whole_text, read_text, setting_for, unless_refused, read_of}
use Rattle.term.specs.Meaning.{RowsOfText}
use Rattle.term.proofs.Meaning.{IsTerm, term_gives, given_is}

-- what is read was not refused before
unrefused : (n : ℕ) (v : Reading (List Row)) (rows : List Row) → unless_refused n v ≡ rows_read rows → (n ≡ 0) × (v ≡ rows_read rows)
unrefused zero v rows e = (refl, e)
unrefused (suc n) v rows e = let z : ◌≡◌ {A = ℕ} 0 1 = cc in absurd (omega arith)

-- a text that is read is a term up to its end
to_the_end : (end : ℕ) (o : Outcome ℕ) (rows : List Row) → whole_text end o ≡ rows_read rows → (j : ℕ) × (o ≡ good j end rows)
to_the_end end (good j next rs) rows = go (eqb next end) refl
  where
    go : (b : Bool) → eqb next end ≡ b → cond b (rows_read rs) (refused_at 63 next) ≡ rows_read rows → (k : ℕ) × (good j next rs ≡ good k end rows)
    go true f e = let p = eqb-true next end f in let q : rs ≡ rows = cc in (j, (λ i. good j (p i) (q i)))
    go false f e = let z : ◌≡◌ {A = ℕ} 0 1 = cc in absurd (omega arith)
to_the_end end (refused w p) rows = λ e. let z : ◌≡◌ {A = ℕ} 0 1 = cc in absurd (omega arith)

-- a name that the lists show is a symbol's
pub known : (set site built_in name : List ℕ) (s : ℕ) → find_name (length (decode set).arities) site built_in name ≡ some s → s < length (decode set).arities
known set site built_in name s e = (found_shown (length (decode set).arities) site built_in name s e).0

module _ (set site built_in text : List ℕ) (space : ℕ) (rows : List Row) (sound : check_of set ≡ 0) where
  of_term : (j : ℕ) → IsTerm (decode set) (setting_for set site built_in space) text (known set site built_in) (λ s. refl) max_levels 0 [] j (length text) rows → RowsOfText set site built_in text rows
  unfolding rows_of
  of_term j h =
      let few = min-le_left max_rows (space / row_cells) in
      let is : rows_of h.tree ≡ rows = ap (λ p. p.0) h.added in
      let fewer : length rows ≤ max_rows = omega (arith, h.few (omega arith)) in
      let right : SoundTable (decode set) rows = subst (SoundTable (decode set)) is (sound_table (decode set) h.tree h.fits h.low (subst (λ l. length l ≤ max_rows) (sym is) fewer)) in
      record {
        tree = h.tree;
        spelled = h.spelled;
        first_finishing = sym is;
        same_tree = ap tree_of (sym is) ∙ (table h.tree).tree;
        sound = right;
        passes = document_passes set rows sound right;
      }

  text_means : read_text (setting_for set site built_in space) text ≡ rows_read rows → RowsOfText set site built_in text rows
  unfolding read_text
  text_means e =
      let (j, q) = to_the_end (length text) (read_term (setting_for set site built_in space) text max_levels 0 []) rows e in
      of_term j
      (given_is (IsTerm (decode set) (setting_for set site built_in space) text (known set site built_in) (λ s. refl) max_levels 0 []) j (length text) rows q
      (term_gives (decode set) (setting_for set site built_in space) text (known set site built_in) (λ s. refl) max_levels 0 []))

-- what is read passes 1 to 7, 61 and 62
pub read_passes : (set site built_in text : List ℕ) (space : ℕ) (rows : List Row) → read_of set site built_in text space ≡ rows_read rows → (check_of set ≡ 0) × (names_check_of (length (decode set).arities) site built_in ≡ 0) × (read_text (setting_for set site built_in space) text ≡ rows_read rows)
unfolding read_of
read_passes set site built_in text space rows e =
    let (sound, f) = unrefused (check_of set) _ rows e in
    let (distinct, g) = unrefused (names_check_of (length (decode set).arities) site built_in) _ rows f in
    (sound, distinct, g)

-- THE ROWS THAT ARE READ ARE A SOUND TABLE OF THE TEXT'S TREE, for every set, both lists, every text and every space.
pub read_means : (set site built_in text : List ℕ) (space : ℕ) (rows : List Row) → read_of set site built_in text space ≡ rows_read rows → RowsOfText set site built_in text rows
read_means set site built_in text space rows e = let (sound, distinct, g) = read_passes set site built_in text space rows e in text_means set site built_in text space rows sound g
