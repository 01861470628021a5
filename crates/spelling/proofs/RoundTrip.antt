-- Reading undoes writing (document 01, section "Term text"): what the writer writes of a sound table is read back to a table of the same tree, with the same row numbers where rows are in first_finishing order. Assumes nothing.
use mathlib.Core.Path.{◌≡◌, refl, sym, ap, subst, ◌∙◌}
use mathlib.Core.Bool.{Bool, true, false, cond}
use mathlib.Core.List.{List, [], ◌++◌, append-nil}
use Prim.Native.Nat.{ℕ, zero, suc, ◌+◌, ◌/◌, ◌<◌, ◌≤◌, min}
use native.Mathlib.Nat.{le-min}
use native.Mathlib.Omega.{arith}
use lib.Dec.{leb}
use lib.ListN.{length, get_or, take, drop}
use lib.Seq.{take_at}
use Rattle.model.specs.Limits.{max_rows}
use Rattle.model.specs.Refusal.{Answer, gives, refuses, answer_map}
use Rattle.model.specs.Tree.{Tree}
use Rattle.model.specs.Table.{tree_of, SoundTable}
use Rattle.model.specs.Build.{rows_of, FirstFinishing}
use Rattle.model.specs.Fit.{FitTree}
use Rattle.model.proofs.BuiltTable.{same_tree, as_many_rows, fit_tree}
use Rattle.model.proofs.Finishing.{order_exactly}
use Rattle.automaton.specs.Stored.{decode}
use Rattle.automaton.specs.Check.{check_of}
use Rattle.automaton.proofs.Sound.{sound_decode}
use Rattle.names.specs.Names.{shown_name, find_name}
use Rattle.names.specs.Check.{names_check_of}
use Rattle.names.proofs.Shown.{shown_name_lem, find_shown}
use Rattle.document.specs.Rows.{row_cells, decode_rows}
use Rattle.document.specs.Check.{table_check_of}
use Rattle.document.proofs.Places.{rows_length}
use Rattle.document.proofs.Sound.{sound_table}
use Rattle.term.specs.Read.{rows_read, reading_map, read_of, space_after}
use Rattle.term.specs.Spelling.{TermAt}
use Rattle.term.proofs.Spelled.{fit_ranked, text_read}
use Rattle.spelling.specs.Write.{fitted, unless_refused, table_text, write_of, space_after as text_after}
use Rattle.spelling.specs.RoundTrip.{bytes_left, read_again, ReadBack}
use Rattle.spelling.proofs.Standing.{from_start, stands_as}
use Rattle.spelling.proofs.SameCells.{same_length, same_cells}
use Rattle.spelling.proofs.Terms.{term_spelled, nothing}

-- a set, lists and a table that pass, and space for as many cells as the table has
module _ (set site built_in cells : List ℕ) (space : ℕ) (set-passes : check_of set ≡ 0) (names-pass : names_check_of (length (decode set).arities) site built_in ≡ 0) (table_passes : table_check_of (decode set) cells ≡ 0) (room : length cells ≤ space) where
  sound : SoundTable (decode set) (decode_rows cells)
  sound = sound_table (decode set) cells (sound_decode set set-passes).few_children table_passes

  abbrev tree : Tree
  tree = tree_of (decode_rows cells)

  abbrev text : List ℕ
  text = table_text site built_in cells

  few : length (decode set).arities ≤ 64
  few = (sound_decode set set-passes).few_symbols

  fits : FitTree (decode set) tree
  fits = fit_tree (decode set) (decode_rows cells) sound

  -- as many rows as the table has, which fit
  room_for_rows : length (rows_of tree) ≤ min max_rows (space / row_cells)
  room_for_rows =
      let n : length (rows_of tree) ≡ length cells / row_cells = as_many_rows (decode set) (decode_rows cells) sound ∙ rows_length cells in
      let a : length cells / row_cells ≤ max_rows = rw (rows_length cells) at sound.few_rows in
      let b : length cells / row_cells ≤ space / row_cells = omega arith in
      rw n (le-min a b)

  spelled : TermAt (find_name (length (decode set).arities) site built_in) text 0 tree (length text)
  spelled =
      let z : 0 + length text ≡ length text = omega arith in
      subst (TermAt (find_name (length (decode set).arities) site built_in) text 0 tree) z
      (term_spelled (decode set) (find_name (length (decode set).arities) site built_in) (shown_name site built_in)
      (shown_name_lem (length (decode set).arities) site built_in names-pass few)
      (find_shown (length (decode set).arities) site built_in names-pass few)
      text tree fits 0 [] (stands_as text 0 text (text ++ []) (sym (append-nil text)) (from_start text)) nothing)

  -- READING UNDOES WRITING: the rows read are those of the table's tree, in order of first finishing
  pub read_back : read_of set site built_in (table_text site built_in cells) space ≡ rows_read (rows_of (tree_of (decode_rows cells)))
  read_back = text_read set site built_in text space tree set-passes names-pass spelled (fit_ranked (decode set) tree fits) sound.low room_for_rows

  -- they are a table of the same tree
  pub read_same_tree : tree_of (rows_of (tree_of (decode_rows cells))) ≡ tree_of (decode_rows cells)
  read_same_tree = same_tree (decode_rows cells)

  -- and the table's own rows, where these are in first_finishing order
  pub read_same_rows : FirstFinishing (decode_rows cells) → read_of set site built_in (table_text site built_in cells) space ≡ rows_read (decode_rows cells)
  read_same_rows order = read_back ∙ ap rows_read ((order_exactly (decode_rows cells) sound.lower sound.distinct).0 order)

  -- so that a table of 16-bit cells comes back cell by cell, at the front of the space
  pub read_same_cells : FirstFinishing (decode_rows cells) → ((j : ℕ) → get_or cells j 0 < 65536) → (d : List ℕ) → space_after (read_of set site built_in (table_text site built_in cells) space) d ≡ cells ++ drop (length cells) d
  read_same_cells order small d =
      let few_children = (sound_decode set set-passes).few_children in
      ap (λ v. space_after v d) (read_same_rows order)
      ∙ (λ i. same_cells (decode set) few_children cells table_passes small i ++ drop (same_length (decode set) few_children cells table_passes small i) d)

-- what is written was not refused before
unrefused : (n : ℕ) (w : Answer (List ℕ)) (text : List ℕ) → unless_refused n w ≡ gives text → (n ≡ 0) × (w ≡ gives text)
unrefused zero w text e = (refl, e)
unrefused (suc n) w text e = let z : ◌≡◌ {A = ℕ} 0 1 = cc in absurd (omega arith)

fitted_is : (space : ℕ) (l text : List ℕ) → fitted space l ≡ gives text → text ≡ l
unfolding fitted
fitted_is space l text = go (leb (length l) space)
  where
    go : (b : Bool) → cond b (gives l) (refuses 68) ≡ gives text → text ≡ l
    go true e = cc
    go false e = let z : ◌≡◌ {A = ℕ} 0 1 = cc in absurd (omega arith)

-- an answer with a number of bytes is one of a text of that length
bytes_of : (w : Answer (List ℕ)) (n : ℕ) → answer_map length w ≡ gives n → (text : List ℕ) × (w ≡ gives text) × (length text ≡ n)
bytes_of (gives text) n e = (text, refl, cc)
bytes_of (refuses m) n e = let z : ◌≡◌ {A = ℕ} 0 1 = cc in absurd (omega arith)

-- WHAT `write` LEAVES IN THE SPACE, READ BY `read`, GIVES THE TABLE BACK, for every set, both lists, every table that is not refused and every space for its rows.
pub written_read : (set site built_in cells d : List ℕ) (n : ℕ) (e : List ℕ) → answer_map length (write_of set site built_in cells (length d)) ≡ gives n → length cells ≤ length e → ReadBack set site built_in cells d n e
unfolding write_of
written_read set site built_in cells d n e answer room =
    let (text, is, long) = bytes_of (write_of set site built_in cells (length d)) n answer in
    let (set-passes, f) = unrefused (check_of set) _ text is in
    let (names-pass, g) = unrefused (names_check_of (length (decode set).arities) site built_in) _ text f in
    let (table_passes, h) = unrefused (table_check_of (decode set) cells) _ text g in
    let left : bytes_left set site built_in cells d n ≡ table_text site built_in cells =
    ap (λ w. take n (text_after w d)) is ∙ take_at text (drop (length text) d) n long ∙ fitted_is (length d) (table_text site built_in cells) text h in
    let again : read_again set site built_in cells d n e ≡ read_of set site built_in (table_text site built_in cells) (length e) = ap (λ l. read_of set site built_in l (length e)) left in
    let back = read_back set site built_in cells (length e) set-passes names-pass table_passes room in
    record {
      text = left;
      rows = again ∙ back;
      as_many = ap (reading_map length) (again ∙ back) ∙ ap rows_read (as_many_rows (decode set) (decode_rows cells) (sound set site built_in cells (length e) set-passes names-pass table_passes room));
      same_tree = same_tree (decode_rows cells);
      same_cells = λ order small. ap (λ v. space_after v e) again ∙ read_same_cells set site built_in cells (length e) set-passes names-pass table_passes room order small e;
    }
