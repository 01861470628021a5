-- The writer's answers: the set, the names and the table are tried, then the length. Assumes nothing.
use mathlib.Core.Path.{◌≡◌, refl, sym, ap, subst, ◌∙◌}
use mathlib.Core.Bool.{true, false}
use mathlib.Core.List.{List, ◌∷◌, ◌++◌}
use Rattle.std.specs.Option.{is_some}
use Prim.Native.Nat.{ℕ, suc, ◌+◌, ◌-◌, ◌*◌, ◌<◌, ◌≤◌}
use native.Mathlib.Omega.{arith}
use borrow.Author.Tests.{le-leb, lt-leb}
use lib.ListN.{length}
use Rattle.model.specs.Limits.{max_symbols}
use Rattle.model.specs.Refusal.{and_after, Answer, gives, refuses, unless, answer_map}
use Rattle.model.specs.Tree.{Tree, Forest, node, fnil, fcons}
use Rattle.model.specs.Automaton.{Automaton}
use Rattle.model.specs.Table.{tree_at, tree_of, SoundTable}
use Rattle.model.specs.Fit.{FitTree, FitForest}
use Rattle.model.proofs.Space.{put_front}
use Rattle.model.proofs.BuiltTable.{fit_tree}
use Rattle.std.specs.Prelude.{Option, Some, None, Result, Ok, Err}
use Rattle.base.specs.Refusals.{number, refused_by}
use Rattle.base.specs.declared.refusal.Refusal.{Refusal}
use Rattle.base.specs.declared.refusal.Refusal.TheVariants.{TextSpace}
use Rattle.base.proofs.Refusing.{some_number}
use Rattle.automaton.specs.Stored.{decode}
use Rattle.automaton.specs.Check.{check_of}
use Rattle.automaton.specs.Answer.{check_answer}
use Rattle.automaton.proofs.Sound.{sound_decode}
use Rattle.automaton.proofs.Verdict.{answer_is, passed_zero}
use Rattle.names.specs.Names.{shown_name}
use Rattle.names.specs.Table.{name_in, cell_bytes, table_of}
use Rattle.names.specs.Check.{names_check_of, names_answer}
use Rattle.names.proofs.Checked.{distinct_zero}
use Rattle.names.proofs.Shown.{table_shows}
use Rattle.document.specs.Rows.{decode_rows}
use Rattle.document.specs.Check.{row_count, table_check_of, document_check_of}
use Rattle.document.proofs.Places.{rows_length}
use Rattle.document.proofs.Sound.{sound_document}
use Rattle.spelling.specs.Text.{scalar_text, term_text, behind_text, rest_text}
use Rattle.spelling.specs.Rows.{SoundCells, row_text, within}
use Rattle.spelling.specs.Parts.{Wrote}
use Rattle.spelling.specs.Write.{fitted, unless_refused, table_text, write_of, write_answer, space_after, Answers}
use Rattle.spelling.proofs.Texts.{some_rows}
use Rattle.spelling.proofs.Summing.{is_over, is_fits}

-- what `is_none` says
given : (r : Option ℕ) → is_some r ≡ true → (m : ℕ) × (r ≡ Some m)
given None e = cc
given (Some m) e = (m, refl)

missing : (r : Option ℕ) → is_some r ≡ false → r ≡ None
missing None e = refl
missing (Some m) e = cc

-- the length decides
module _ (space : ℕ) (text : List ℕ) (r : Option ℕ) (e : r ≡ within space (length text)) where
  pub too_long : is_some r ≡ false → (before : List ℕ) → Answers (fitted space text) (Err TextSpace) before before
  unfolding fitted
  too_long o before = let l = is_over space (length text) r e (missing r o) in rw (lt-leb _ _ l) (record { answer = refl; space = refl })

  short_enough : is_some r ≡ true → length text ≤ space
  short_enough f = let g = given r f in (is_fits space (length text) r g.0 e g.1).1

  all_written : is_some r ≡ true → (before after : List ℕ) (n : ℕ) → space ≡ length before → Wrote before 0 text after n → Answers (fitted space text) (Ok n) before after
  unfolding fitted
  all_written f before after n q w =
      let l = short_enough f in
      let z : n ≡ length text = omega (arith, w.place) in
      rw (le-leb _ _ l) (record { answer = ap gives z; space = w.is ∙ put_front before text (omega arith) })

-- the last row, by the number of rows
module _ (cells : List ℕ) (s : SoundCells cells) (n : ℕ) (e : n ≡ row_count cells) where
  pub last_inside : n - 1 < row_count cells
  last_inside = omega (arith, some_rows cells s)

  module _ (name : ℕ → List ℕ) (before : List ℕ) (r : Option ℕ) (is : r ≡ within (length before) (length (row_text name cells (row_count cells - 1)))) (fits : is_some r ≡ true) where
    pub last_fits : 0 + length (row_text name cells (n - 1)) ≤ length before
    last_fits = let l = short_enough (length before) (row_text name cells (row_count cells - 1)) r is fits in let q = ap (λ k. length (row_text name cells (k - 1))) e in omega arith

    pub last_written : (after : List ℕ) (k : ℕ) → Wrote before 0 (row_text name cells (n - 1)) after k → Answers (fitted (length before) (row_text name cells (row_count cells - 1))) (Ok k) before after
    last_written after k w =
        all_written (length before) (row_text name cells (row_count cells - 1)) r is fits before after k refl
        (subst (λ x. Wrote before 0 (row_text name cells (x - 1)) after k) e w)

-- symbols that are shown alike by two tables of names make the same text
module _ (A : Automaton) (f g : ℕ → List ℕ) (same : (s : ℕ) → s < length A.arities → f s ≡ g s) where
  mutual
    unfolding FitTree term_text

    term_same : (t : Tree) → FitTree A t → term_text f t ≡ term_text g t
    term_same (node s k p ts) h = ap (λ l. l ++ behind_text f (scalar_text k p) ts) (same s h.0.known) ∙ ap (λ l. g s ++ l) (behind_same (scalar_text k p) ts h.1)

    behind_same : (x : List ℕ) (ts : Forest) → FitForest A ts → behind_text f x ts ≡ behind_text g x ts
    behind_same x fnil h = refl
    behind_same x (fcons t ts) h = λ i. 40 ∷ term_same t h.0 i ++ rest_same ts h.1 i

    rest_same : (ts : Forest) → FitForest A ts → rest_text f ts ≡ rest_text g ts
    rest_same fnil h = refl
    rest_same (fcons t ts) h = λ i. 44 ∷ term_same t h.0 i ++ rest_same ts h.1 i

-- a number that is refused, and one that is not
stops : (a : Result (Unit {0}) Refusal) (n : ℕ) (why : Refusal) (w : Answer (List ℕ)) → check_answer a ≡ unless n tt → a ≡ Err why → unless_refused n w ≡ refuses (number why)
stops a n why w e h =
    let s = some_number why in
    let is : n ≡ suc s.0 = sym (answer_is a n e) ∙ ap refused_by h ∙ s.1 in
    rw (is, s.1)

goes_on : (n : ℕ) (w : Answer (List ℕ)) → n ≡ 0 → unless_refused n w ≡ w
goes_on n w e = rw e

-- an answer by what is to be written
pub answers : (w v : Answer (List ℕ)) (r : Result ℕ Refusal) (before after : List ℕ) → w ≡ v → Answers v r before after → (write_answer r ≡ answer_map length w) × (after ≡ space_after w before)
answers w v r before after e h = (h.answer ∙ ap (answer_map length) (sym e), h.space ∙ ap (λ x. space_after x before) (sym e))

pub refused_answers : (w : Answer (List ℕ)) (why : Refusal) (r : Result ℕ Refusal) (before : List ℕ) → r ≡ Err why → w ≡ refuses (number why) → (write_answer r ≡ answer_map length w) × (before ≡ space_after w before)
refused_answers w why r before is e = answers w (refuses (number why)) r before before e (record { answer = ap write_answer is; space = refl })

module _ (set site built_in cells : List ℕ) (space : ℕ) (a : Result (Unit {0}) Refusal) (ea : check_answer a ≡ unless (check_of set) tt) where
  abbrev table_on : Answer (List ℕ)
  table_on = unless_refused (table_check_of (decode set) cells) (fitted space (table_text site built_in cells))

  abbrev names_on : Answer (List ℕ)
  names_on = unless_refused (names_check_of (length (decode set).arities) site built_in) table_on

  pub set_refused : (n : Refusal) → a ≡ Err n → write_of set site built_in cells space ≡ refuses (number n)
  unfolding write_of
  set_refused n h = stops a (check_of set) n names_on ea h

  module _ (pa : a ≡ Ok tt) (symbols : ℕ) (es : symbols ≡ length (decode set).arities) (b : Result (Unit {0}) Refusal) (eb : names_answer b ≡ unless (names_check_of symbols site built_in) tt) where
    set_passed : check_of set ≡ 0
    set_passed = passed_zero a (check_of set) ea pa

    by_names : names_answer b ≡ unless (names_check_of (length (decode set).arities) site built_in) tt
    by_names = eb ∙ ap (λ n. unless (names_check_of n site built_in) tt) es

    on_names : write_of set site built_in cells space ≡ names_on
    unfolding write_of
    on_names = goes_on (check_of set) names_on set_passed

    pub names_refused : (n : Refusal) → b ≡ Err n → write_of set site built_in cells space ≡ refuses (number n)
    names_refused n h = on_names ∙ stops b (names_check_of (length (decode set).arities) site built_in) n table_on by_names h

    module _ (pb : b ≡ Ok tt) (d : Result (Unit {0}) Refusal) (ed : check_answer d ≡ unless (document_check_of set cells) tt) where
      names_passed : names_check_of (length (decode set).arities) site built_in ≡ 0
      names_passed = distinct_zero b (names_check_of (length (decode set).arities) site built_in) by_names pb

      on_table : write_of set site built_in cells space ≡ table_on
      on_table = on_names ∙ goes_on (names_check_of (length (decode set).arities) site built_in) table_on names_passed

      by_table : check_answer d ≡ unless (table_check_of (decode set) cells) tt
      unfolding and_after
      by_table = ed ∙ ap (λ n. unless (and_after n (table_check_of (decode set) cells)) tt) set_passed

      pub table_refused : (n : Refusal) → d ≡ Err n → write_of set site built_in cells space ≡ refuses (number n)
      table_refused n h = on_table ∙ stops d (table_check_of (decode set) cells) n (fitted space (table_text site built_in cells)) by_table h

      module _ (pd : d ≡ Ok tt) where
        table_sound : SoundTable (decode set) (decode_rows cells)
        table_sound = (sound_document set cells (passed_zero d (document_check_of set cells) ed pd)).1

        pub sound : SoundCells cells
        sound = record { set = decode set; table = table_sound }

        on_text : write_of set site built_in cells space ≡ fitted space (table_text site built_in cells)
        on_text = on_table ∙ goes_on (table_check_of (decode set) cells) (fitted space (table_text site built_in cells)) (passed_zero d (table_check_of (decode set) cells) by_table pd)

        -- the last row's text by a filled table is that of the tree by the names shown
        as_shown : (zeros : List ℕ) → max_symbols * cell_bytes ≤ length zeros → row_text (name_in (table_of site built_in zeros)) cells (row_count cells - 1) ≡ table_text site built_in cells
        unfolding row_text
        as_shown zeros room =
            ap (λ k. term_text (name_in (table_of site built_in zeros)) (tree_at (decode_rows cells) (k - 1))) (sym (rows_length cells))
            ∙ term_same (decode set) (name_in (table_of site built_in zeros)) (shown_name site built_in)
            (table_shows (length (decode set).arities) site built_in names_passed (sound_decode set set_passed).few_symbols zeros room)
            (tree_of (decode_rows cells)) (fit_tree (decode set) (decode_rows cells) table_sound)

        pub text_answers : (zeros table : List ℕ) (r : Result ℕ Refusal) (before after : List ℕ) → max_symbols * cell_bytes ≤ length zeros → table ≡ table_of site built_in zeros
            → Answers (fitted space (row_text (name_in table) cells (row_count cells - 1))) r before after
            → (write_answer r ≡ answer_map length (write_of set site built_in cells space)) × (after ≡ space_after (write_of set site built_in cells space) before)
        text_answers zeros table r before after room e h =
            answers (write_of set site built_in cells space) (fitted space (row_text (name_in table) cells (row_count cells - 1))) r before after
            (on_text ∙ ap (fitted space) (sym (as_shown zeros room)) ∙ ap (λ t. fitted space (row_text (name_in t) cells (row_count cells - 1))) (sym e)) h
