-- The names shown for the symbols of a set, where the two lists pass their check: theorems for the reader and the writer of text. Assumes nothing.
use mathlib.Core.Path.{◌≡◌, refl, sym, ap, ◌∙◌}
use mathlib.Core.Logic.{⊎_elim}
use mathlib.Core.Bool.{Bool, true, false, ◌&&◌, not}
use mathlib.Core.List.{List, [], ◌∷◌}
use mathlib.Core.Option.{some}
use Prim.Native.Nat.{ℕ, ◌*◌, ◌<◌, ◌≤◌}
use native.Mathlib.Nat.{min-eq_left}
use native.Mathlib.Omega.{arith}
use borrow.Author.Tests.{leb-true}
use lib.Dec.{T, leb, ltb, eqb-suc-zero}
use lib.ListN.{length}
use lib.Seq.{take_all}
use Rattle.model.specs.Limits.{max_symbols}
use Rattle.model.specs.Lists.{all_below, eq_list}
use Rattle.model.specs.Refusal.{demand}
use Rattle.model.proofs.Below.{at}
use Rattle.model.proofs.Members.{T_true, eq_list→eq, eq_list_refl}
use Rattle.names.specs.Lines.{line_at, line_count}
use Rattle.names.specs.Names.{letter?, digit?, name_byte?, max_name, name?, unless_empty, name_of, digits, default_name, shown_name, find_in, find_name}
use Rattle.names.specs.Table.{name_in, cell_bytes, table_of}
use Rattle.names.specs.Check.{line_fits?, list_fits?, new?, distinct?, names_check_of}
use Rattle.names.proofs.Tests.{and_true, split, all_same}
use Rattle.names.proofs.First.{first_is, unfound_all, found_passes, first_same}
use Rattle.names.proofs.Scan.{no_line}
use Rattle.names.proofs.Cells.{holds}

-- each line is empty or a name
line_fits : (s : List ℕ) (i : ℕ) → list_fits? s ≡ true → line_fits? (line_at s i) ≡ true
unfolding list_fits? line_fits?
line_fits s i h =
    ⊎_elim (λ l. at (λ k. line_fits? (line_at s k)) (line_count s) i (and_true (leb (line_count s) max_symbols) _ h).1 l)
    (λ l. ap line_fits? (no_line s i l)) (split i (line_count s))

-- the first of two is a name where it is not empty, else the second is
or_line : (l o : List ℕ) → line_fits? l ≡ true → line_fits? o ≡ true → line_fits? (unless_empty l o) ≡ true
or_line [] o h g = g
or_line (x ∷ xs) o h g = h

or_name : (l o : List ℕ) → line_fits? l ≡ true → name? o ≡ true → name? (unless_empty l o) ≡ true
unfolding line_fits?
or_name [] o h g = g
or_name (x ∷ xs) o h g = rw (eqb-suc-zero (length xs)) at h

-- `s` and a number below 64 is a name: one test over all of them
default_names : all_below max_symbols (λ i. name? (default_name i)) ≡ true
unfolding all_below name? default_name digits name_byte? letter? digit?
default_names = refl

module _ (site built_in : List ℕ) (fit : list_fits? site ≡ true) (fit' : list_fits? built_in ≡ true) where
  pub shown_fits : (i : ℕ) → i < max_symbols → name? (shown_name site built_in i) ≡ true
  unfolding shown_name name_of
  shown_fits i l =
      or_name (name_of site built_in i) (default_name i) (or_line (line_at site i) (line_at built_in i) (line_fits site i fit) (line_fits built_in i fit'))
      (at (λ k. name? (default_name k)) max_symbols i default_names l)

name_short : (l : List ℕ) → name? l ≡ true → length l ≤ max_name
unfolding name?
name_short l h =
    leb-true _ _ (and_true (leb (length l) max_name) _ (and_true (ltb 0 (length l)) _ h).1).0

-- a table holds the names shown
module _ (site built_in t : List ℕ) (fit : list_fits? site ≡ true) (fit' : list_fits? built_in ≡ true) (room : max_symbols * cell_bytes ≤ length t) where
  pub held : (i : ℕ) → i < max_symbols → name_in (table_of site built_in t) i ≡ shown_name site built_in i
  held i l =
      (holds site built_in t max_symbols i room l).name ∙ take_all max_name (shown_name site built_in i) (name_short _ (shown_fits site built_in fit fit' i l))

-- tests of n names depend on these names alone
module _ (f g : ℕ → List ℕ) (n : ℕ) (same : (i : ℕ) → i < n → f i ≡ g i) where
  pub distinct_same : distinct? n f ≡ distinct? n g
  unfolding distinct? new?
  distinct_same =
      all_same (new? f) (new? g) n (λ i l. all_same (λ j. not (eq_list (f j) (f i))) (λ j. not (eq_list (g j) (g i))) i
      (λ j k. let m : j < n = omega arith in cc (same j m, same i l)))

  pub find_same : (bytes : List ℕ) → find_in n f bytes ≡ find_in n g bytes
  unfolding find_in
  find_same bytes = first_same _ _ n (λ i l. ap (λ w. eq_list w bytes) (same i l))

-- what the number 0 tells
module _ (n : ℕ) (site built_in : List ℕ) (passed : names_check_of n site built_in ≡ 0) (few : n ≤ max_symbols) where
  pub both_pass : (list_fits? site ≡ true) × (list_fits? built_in ≡ true) × (distinct? n (shown_name site built_in) ≡ true)
  unfolding names_check_of demand
  both_pass = go (list_fits? site) (list_fits? built_in) (distinct? n (shown_name site built_in)) (rw (min-eq_left few) at passed)
    where
      go : (a b d : Bool) → demand (a && b) 61 (demand d 62 0) ≡ 0 → (a ≡ true) × (b ≡ true) × (d ≡ true)
      go true true true e = (refl, refl, refl)
      go true true false e = absurd (omega arith)
      go true false d e = absurd (omega arith)
      go false b d e = absurd (omega arith)

  -- each name shown is a name, of at most 16 bytes
  pub shown_name_lem : (i : ℕ) → i < n → T (name? (shown_name site built_in i))
  shown_name_lem i l = (T_true (name? (shown_name site built_in i))).1 (shown_fits site built_in both_pass.0 both_pass.1 i (omega arith))

  pub shown_short : (i : ℕ) → i < n → length (shown_name site built_in i) ≤ max_name
  shown_short i l = name_short (shown_name site built_in i) (shown_fits site built_in both_pass.0 both_pass.1 i (omega arith))

  shown_new : (i : ℕ) → i < n → all_below i (λ j. not (eq_list (shown_name site built_in j) (shown_name site built_in i))) ≡ true
  unfolding distinct? new?
  shown_new i l = at (new? (shown_name site built_in)) n i both_pass.2 l

  -- the bytes of a symbol's name find this symbol
  pub find_shown : (i : ℕ) → i < n → find_name n site built_in (shown_name site built_in i) ≡ some i
  unfolding find_in
  find_shown i l =
      let name = shown_name site built_in i in
      first_is (λ k. eq_list (shown_name site built_in k) name) n i l (unfound_all (λ k. eq_list (shown_name site built_in k) name) i (shown_new i l))
      ((T_true (eq_list name name)).0 (eq_list_refl name))

  -- no two symbols are shown alike
  pub shown_once : (i j : ℕ) → i < n → j < n → shown_name site built_in i ≡ shown_name site built_in j → i ≡ j
  shown_once i j l k e =
      let both : some i ≡ some j = sym (find_shown i l) ∙ ap (find_name n site built_in) e ∙ find_shown j k in
      cc

  module _ (t : List ℕ) (room : max_symbols * cell_bytes ≤ length t) where
    -- a table filled from the lists holds the names shown, and finds by them
    pub table_shows : (i : ℕ) → i < n → name_in (table_of site built_in t) i ≡ shown_name site built_in i
    table_shows i l = held site built_in t both_pass.0 both_pass.1 room i (omega arith)

    pub table_finds : (bytes : List ℕ) → find_in n (name_in (table_of site built_in t)) bytes ≡ find_name n site built_in bytes
    table_finds bytes = find_same (name_in (table_of site built_in t)) (shown_name site built_in) n table_shows bytes

-- what is found is a symbol that is shown by the bytes
pub found_shown : (n : ℕ) (site built_in bytes : List ℕ) (i : ℕ) → find_name n site built_in bytes ≡ some i → (i < n) × (shown_name site built_in i ≡ bytes)
unfolding find_in
found_shown n site built_in bytes i h =
    let r = found_passes (λ k. eq_list (shown_name site built_in k) bytes) n i h in
    (r.0, eq_list→eq (shown_name site built_in i) bytes ((T_true (eq_list (shown_name site built_in i) bytes)).1 r.1))
