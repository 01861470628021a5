-- A text spells at most one tree, and a text that spells a tree is read as that tree. Assumes nothing.
use mathlib.Core.Path.{◌≡◌, refl, sym, ap, ◌∙◌}
use mathlib.Core.Bool.{true, cond}
use mathlib.Core.List.{List, [], ◌∷◌}
use mathlib.Core.Option.{Option, none, some}
use Prim.Native.Nat.{ℕ, zero, suc, ◌+◌, ◌-◌, ◌/◌, ◌<◌, ◌≤◌, min}
use native.Mathlib.Omega.{arith}
use borrow.Author.Tests.{eq-eqb, lt-ltb}
use lib.Dec.{ltb}
use lib.ListN.{length, length-append}
use Rattle.model.specs.Limits.{max_rows, max_levels}
use Rattle.model.specs.Tree.{Tree, Forest, node, fnil, fcons, trees, levels, highest}
use Rattle.model.specs.Automaton.{Automaton, arity_of}
use Rattle.model.specs.Fit.{FitTree, FitForest}
use Rattle.model.specs.Table.{Row}
use Rattle.model.specs.Build.{find_row, placed, add_row, add_tree, add_forest, rows_of}
use Rattle.model.proofs.Levels.{larger_bounds}
use Rattle.automaton.specs.Stored.{decode}
use Rattle.automaton.specs.Check.{check_of}
use Rattle.names.specs.Names.{find_name}
use Rattle.names.specs.Check.{names_check_of}
use Rattle.document.specs.Rows.{row_cells}
use Rattle.term.specs.Scan.{byte_at, got, scalar, scalar_at}
use Rattle.term.specs.Grammar.{Setting, good, row_of, place_row, end_term, after_args, after_scalar, with_first, read_args, named, read_term}
use Rattle.term.specs.Read.{rows_read, refused_at, whole_text, read_text, setting_for, read_of}
use Rattle.term.specs.Spelling.{NameAt, TermAt, leaf, branch, ArgsAt, last, more, Ranked, RankedIn}
use Rattle.base.proofs.Got.{read_is}
use Rattle.term.proofs.Bytes.{letter_inside}
use Rattle.term.proofs.Listing.{turn_comma, turn_end}
use Rattle.term.proofs.Reading.{term_leaf, term_args}
use Rattle.term.proofs.Scalars.{ScalarFrom, scalar_reads}
use Rattle.term.proofs.Symbols.{named_after}
use Rattle.term.proofs.Whole.{passed}

module _ (symbol : List ℕ → Option ℕ) (t : List ℕ) where
  -- one name
  pub name_once : {i i' s s' n n' : ℕ} → i ≡ i' → NameAt symbol t i s n → NameAt symbol t i' s' n' → (s ≡ s') × (n ≡ n')
  name_once {s} {s'} {n} {n'} e a b =
      let p = a.known in
      let q = b.known in
      let r : named s n ≡ named s' n' = cc in
      (cc, cc)

  mutual
    -- one term
    pub term_once : {i i' n n' : ℕ} {u u' : Tree} → i ≡ i' → TermAt symbol t i u n → TermAt symbol t i' u' n' → (u ≡ u') × (n ≡ n')
    term_once e (leaf {n = n} {k = k} {p = p} name b q) (leaf {n = n'} {k = k'} {p = p'} name' b' q') =
        let (s, next) = name_once e name name' in
        let r : got (scalar k p) n ≡ got (scalar k' p') n' = sym q ∙ ap (scalar_at t) next ∙ q' in
        let same : scalar k p ≡ scalar k' p' = cc in
        ((λ j. node (s j) (same j).kind (same j).payload fnil), cc)
    term_once e (leaf name b q) (branch name' b' a') = let (s, next) = name_once e name name' in absurd (b (ap (byte_at t) next ∙ b'))
    term_once e (branch name b a) (leaf name' b' q') = let (s, next) = name_once e name name' in absurd (b' (sym (ap (byte_at t) next) ∙ b))
    term_once e (branch name b a) (branch name' b' a') =
        let (s, next) = name_once e name name' in
        let (f, n) = args_once (ap (◌+ 1) next) a a' in
        ((λ j. node (s j) 0 0 (f j)), n)

    -- one argument list
    pub args_once : {i i' n n' : ℕ} {f f' : Forest} → i ≡ i' → ArgsAt symbol t i f n → ArgsAt symbol t i' f' n' → (f ≡ f') × (n ≡ n')
    args_once e (last h b m) (last h' b' m') = let (u, next) = term_once e h h' in ((λ j. fcons (u j) fnil), m ∙ ap (◌+ 1) next ∙ sym m')
    args_once e (last h b m) (more h' b' a') = let (u, next) = term_once e h h' in absurd (omega (arith, b, b', ap (byte_at t) next))
    args_once e (more h b a) (last h' b' m') = let (u, next) = term_once e h h' in absurd (omega (arith, b, b', ap (byte_at t) next))
    args_once e (more h b a) (more h' b' a') =
        let (u, next) = term_once e h h' in
        let (f, n) = args_once (ap (◌+ 1) next) a a' in
        ((λ j. fcons (u j) (f j)), n)

  -- A TEXT SPELLS AT MOST ONE TREE from a place on, up to one end.
  pub spelled_once : {i n n' : ℕ} {u u' : Tree} → TermAt symbol t i u n → TermAt symbol t i u' n' → (u ≡ u') × (n ≡ n')
  spelled_once = term_once refl

  -- a term begins inside the text
  term_begins : {i n : ℕ} {u : Tree} → TermAt symbol t i u n → i < length t
  term_begins {i = i} (leaf name b q) = letter_inside t i name.letter
  term_begins {i = i} (branch name b a) = letter_inside t i name.letter

  name_ahead : {i s n : ℕ} → NameAt symbol t i s n → i < n
  name_ahead {i} {s} {n} h = (named_after t i h.letter symbol s n h.known).0

  mutual
    -- and goes on
    term_ahead : {i n : ℕ} {u : Tree} → TermAt symbol t i u n → i < n
    term_ahead (leaf {next = next} {n = n} {k = k} {p = p} name b q) = omega (arith, name_ahead name, (read_is (ScalarFrom next) (scalar k p) n q (scalar_reads t next)).1)
    term_ahead (branch name b a) = omega (arith, name_ahead name, args_ahead a)

    args_ahead : {i n : ℕ} {f : Forest} → ArgsAt symbol t i f n → i < n
    args_ahead (last h b m) = omega (arith, term_ahead h, m)
    args_ahead (more h b a) = omega (arith, term_ahead h, args_ahead a)

-- rows only grow
row_grows : (rows : List Row) (r : Row) → length rows ≤ length (add_row rows r).0
row_grows rows r = go (find_row r rows)
  where
    go : (o : Option ℕ) → length rows ≤ length (placed rows r o).0
    go (some i) = omega arith
    go none = let n = length-append rows (r ∷ []) in omega arith

mutual
  unfolding add_tree

  tree_grows : (u : Tree) (rows : List Row) → length rows ≤ length (add_tree u rows).0
  tree_grows (node s k p f) rows =
      let a = forest_grows f rows in
      let b = row_grows (add_forest f rows).0 (record { symbol = s; kind = k; payload = p; children = (add_forest f rows).1 }) in
      omega arith

  forest_grows : (f : Forest) (rows : List Row) → length rows ≤ length (add_forest f rows).0
  forest_grows fnil rows = omega arith
  forest_grows (fcons u f) rows =
      let a = tree_grows u rows in
      let b = forest_grows f (add_tree u rows).0 in
      omega arith

-- as many rows as trees
as_many_rows : (f : Forest) (rows : List Row) → length (add_forest f rows).1 ≡ length (trees f)
unfolding add_tree
as_many_rows fnil rows = refl
as_many_rows (fcons u f) rows = ap suc (as_many_rows f (add_tree u rows).0)

-- a term ends where its row is found or there is room for it
end_adds : (arity : ℕ → ℕ) (limit at : ℕ) (r : Row) (n : ℕ) (rows : List Row) → length r.children ≡ arity r.symbol → length (add_row rows r).0 ≤ limit → end_term arity limit at r n rows ≡ good (add_row rows r).1 n (add_row rows r).0
unfolding end_term
end_adds arity limit at r n rows e few = rw (eq-eqb _ _ e) (go (find_row r rows) few)
  where
    go : (o : Option ℕ) → length (placed rows r o).0 ≤ limit → place_row limit at r n rows o ≡ good (placed rows r o).1 n (placed rows r o).0
    go (some i) l = refl
    go none l = let k = length-append rows (r ∷ []) in let b : ltb (length rows) limit ≡ true = lt-ltb (length rows) limit (omega arith) in rw b

-- the number of children is part of what a fitting tree has
mutual
  unfolding FitTree Ranked

  pub fit_ranked : (A : Automaton) (u : Tree) → FitTree A u → Ranked (arity_of A) u
  fit_ranked A (node s k p f) h = (h.0.as_many, fit_ranked_in A f h.1)

  fit_ranked_in : (A : Automaton) (f : Forest) → FitForest A f → RankedIn (arity_of A) f
  fit_ranked_in A fnil h = tt
  fit_ranked_in A (fcons u f) h = (fit_ranked A u h.0, fit_ranked_in A f h.1)

module _ (S : Setting) (t : List ℕ) where
  mutual
    unfolding add_tree levels Ranked

    -- A TEXT THAT SPELLS A TREE IS READ AS THAT TREE, where levels, numbers of children and room allow it.
    pub spelled_read : {at n : ℕ} {u : Tree} → TermAt S.symbol t at u n → (l : ℕ) (rows : List Row) → Ranked S.arity u → levels u ≤ l → length (add_tree u rows).0 ≤ S.limit → read_term S t l at rows ≡ good (add_tree u rows).1 n (add_tree u rows).0
    spelled_read {at = at} (leaf {next = next} {n = n} {s = s} {k = k} {p = p} name b q) l rows ranked low few =
        term_leaf S t at rows name.letter s next name.known l (λ z. omega arith) b
        ∙ ap (after_scalar S at s rows) q
        ∙ end_adds S.arity S.limit at (row_of s (scalar k p) []) n rows ranked.0 few
    spelled_read {at = at} (branch {next = next} {n = n} {s = s} {f = f} name b a) l rows ranked low few =
        let grown = row_grows (add_forest f rows).0 (row_of s (scalar 0 0) (add_forest f rows).1) in
        term_args S t at rows name.letter s next name.known l (λ z. omega arith) b
        ∙ ap (after_args S at s) (args_read a (l - 1) (length t - (next + 1)) rows ranked.1 (omega arith) (omega arith) (omega arith))
        ∙ end_adds S.arity S.limit at (row_of s (scalar 0 0) (add_forest f rows).1) n (add_forest f rows).0 (as_many_rows f rows ∙ ranked.0) few

    -- the turns m are enough for the bytes left
    args_read : {at n : ℕ} {f : Forest} → ArgsAt S.symbol t at f n → (l m : ℕ) (rows : List Row) → RankedIn S.arity f → highest f ≤ l → length t ≤ at + m → length (add_forest f rows).0 ≤ S.limit → read_args (read_term S t l) t m at rows ≡ good (add_forest f rows).1 n (add_forest f rows).0
    args_read (last h b e) l zero rows ranked low enough few = absurd (omega (arith, term_begins S.symbol t h))
    args_read {at = at} (last {next = next} {u = u} h b e) l (suc m) rows ranked low enough few =
        let first = (larger_bounds (levels u) 0).0 in
        turn_end (read_term S t l) t at rows m (add_tree u rows).1 next (add_tree u rows).0 (spelled_read h l rows ranked.0 (omega arith) few) true (λ z. omega arith) (eq-eqb _ _ b)
        ∙ ap (λ n. good ((add_tree u rows).1 ∷ []) n (add_tree u rows).0) (sym e)
    args_read (more h b a) l zero rows ranked low enough few = absurd (omega (arith, term_begins S.symbol t h))
    args_read {at = at} (more {next = next} {u = u} {f = f} h b a) l (suc m) rows ranked low enough few =
        let (first, others) = larger_bounds (levels u) (highest f) in
        let grown = forest_grows f (add_tree u rows).0 in
        let ahead = term_ahead S.symbol t h in
        turn_comma (read_term S t l) t at rows m (add_tree u rows).1 next (add_tree u rows).0 (spelled_read h l rows ranked.0 (omega arith) (omega arith)) b
        ∙ ap (with_first (add_tree u rows).1) (args_read a l m (add_tree u rows).0 ranked.1 (omega arith) (omega arith) few)

-- A WHOLE TEXT THAT SPELLS A TREE IS READ AS ITS ROWS, for every set and both lists that pass, and every space that has room for the rows.
pub text_read : (set site built_in text : List ℕ) (space : ℕ) (tree : Tree) → check_of set ≡ 0 → names_check_of (length (decode set).arities) site built_in ≡ 0
    → TermAt (find_name (length (decode set).arities) site built_in) text 0 tree (length text) → Ranked (arity_of (decode set)) tree → levels tree ≤ max_levels → length (rows_of tree) ≤ min max_rows (space / row_cells)
    → read_of set site built_in text space ≡ rows_read (rows_of tree)
unfolding read_of read_text rows_of
text_read set site built_in text space tree set-passes names-pass spelled ranked low few =
    passed (check_of set) _ set-passes
    ∙ passed (names_check_of (length (decode set).arities) site built_in) _ names-pass
    ∙ ap (whole_text (length text)) (spelled_read (setting_for set site built_in space) text spelled max_levels [] ranked low few)
    ∙ ap (λ b. cond b (rows_read (rows_of tree)) (refused_at 63 (length text))) (eq-eqb (length text) (length text) refl)
